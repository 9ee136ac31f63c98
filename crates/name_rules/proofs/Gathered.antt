-- What is found of rules, entry by entry and procedure by procedure.
use Rattle.std.proofs.Common.{◌≡◌, ℕ, ◌+◌, ◌<◌, Bool, true, false, List, [], ◌∷◌, ◌++◌, length, drop, get_or, map, Option, Some, None, refl, sym, ap, ◌∙◌, append_assoc}
use Rattle.std.specs.Prelude.{flat_map, is_some, Result, Ok, Err, OnOk}
use Rattle.std.proofs.lemmas.List.{drop_more}
use Rattle.std.proofs.lemmas.List.Concat.{flat_map-append}
use Rattle.vba_base.specs.declared.place.Place.{Place}
use Rattle.vba_base.specs.declared.place.Refusal.{Refusal}
use Rattle.vba_words.specs.declared.identifier.Identifier.{Identifier}
use Rattle.constant_values.specs.declared_names.specs.binder.specs.Declarations as plain
use Rattle.constant_values.specs.declared_names.specs.binder.specs.Declarations.{What, a_variable, a_constant, an_enum, a_member, a_type, an_event, a_procedure, Written}
use Rattle.constant_values.specs.declared_names.specs.binder.specs.Said.{Said, header_said}
use Rattle.constant_values.specs.declared_names.specs.binder.specs.Scopes.{Scope}
use Rattle.constant_values.specs.declared_names.specs.binder.specs.Violations.{in_body, procedures_in, recursive_in, types_said}
use Rattle.constant_values.specs.declared_names.specs.declared.entry.Entry.{Entry}
use Rattle.constant_values.specs.declared_names.specs.View.{entry_view}
use Rattle.use_rules.specs.Found.{noted}
use Rattle.use_rules.specs.Walked.{walked}
use Rattle.use_rules.proofs.Noted.{noted_append}
use Rattle.use_rules.proofs.Standing.{standings_walked}

-- the header of a procedure, then its body
pub header_noted : (rule : ℕ) (test : Bool → Said → List Place) (p : Written) (found : Option Refusal)
    → noted rule found (in_body test p) ≡ noted rule (noted rule found (flat_map (test false) (header_said p))) (walked test (is_some p.static_word) [] p.body)
header_noted rule test p found =
    noted_append rule found (flat_map (test false) (header_said p)) _
    ∙ ap (noted rule (noted rule found (flat_map (test false) (header_said p)))) (standings_walked test (is_some p.static_word) 0 [] p.body)

split : {X : Type 0} (all : List X) (index : ℕ) (x : X) → index < length all → x ≡ get_or all index x → drop index all ≡ x ∷ drop (index + 1) all
split all index x more here = drop_more all index x more ∙ ap (λ y. y ∷ drop (index + 1) all) (sym here)

-- one item more
pub item_noted : {X B : Type 0} (rule : ℕ) (test : B → List Place) (view : X → B) (now next found : Option Refusal) (all : List X) (index : ℕ) (x : X)
    → index < length all → x ≡ get_or all index x
    → next ≡ noted rule now (test (view x))
    → noted rule now (flat_map test (map view (drop index all))) ≡ found
    → noted rule next (flat_map test (map view (drop (index + 1) all))) ≡ found
item_noted rule test view now next found all index x more here is before =
    let others = flat_map test (map view (drop (index + 1) all)) in
    ap (λ f. noted rule f others) is
    ∙ sym (noted_append rule now (test (view x)) others)
    ∙ ap (λ xs. noted rule now (flat_map test (map view xs))) (sym (split all index x more here))
    ∙ before

procedures_split : (x : Identifier) (public : Bool) (w : What) (es : List plain.Entry)
    → procedures_in (record { name = x; is_public = public; what = w } ∷ es) ≡ procedures_in (record { name = x; is_public = public; what = w } ∷ []) ++ procedures_in es
procedures_split x public (a_variable v) es = refl
procedures_split x public (a_constant c) es = refl
procedures_split x public an_enum es = refl
procedures_split x public (a_member value steps) es = refl
procedures_split x public (a_type fields) es = refl
procedures_split x public (an_event ps) es = refl
procedures_split x public (a_procedure p) es = refl

-- one entry more, of the procedures among entries
pub procedure_noted : (rule : ℕ) (test : Written → List Place) (now next found : Option Refusal) (all : List Entry) (index : ℕ) (e : Entry)
    → index < length all → e ≡ get_or all index e
    → next ≡ noted rule now (flat_map test (procedures_in (entry_view e ∷ [])))
    → noted rule now (flat_map test (procedures_in (map entry_view (drop index all)))) ≡ found
    → noted rule next (flat_map test (procedures_in (map entry_view (drop (index + 1) all)))) ≡ found
procedure_noted rule test now next found all index e more here is before =
    let others = procedures_in (map entry_view (drop (index + 1) all)) in
    let first = procedures_in (entry_view e ∷ []) in
    let x = entry_view e in
    ap (λ f. noted rule f (flat_map test others)) is
    ∙ sym (noted_append rule now (flat_map test first) (flat_map test others))
    ∙ ap (noted rule now) (sym (flat_map-append test first others))
    ∙ ap (λ ps. noted rule now (flat_map test ps)) (sym (procedures_split x.name x.is_public x.what (map entry_view (drop (index + 1) all))))
    ∙ ap (λ xs. noted rule now (flat_map test (procedures_in (map entry_view xs)))) (sym (split all index e more here))
    ∙ before

-- one item more of what is collected
pub collected : {X B C : Type 0} (all_of : List B → List C) (one : B → List C) → ((b : B) (bs : List B) → all_of (b ∷ bs) ≡ one b ++ all_of bs)
    → (view : X → B) (now next whole : List C) (all : List X) (index : ℕ) (x : X)
    → index < length all → x ≡ get_or all index x
    → next ≡ now ++ one (view x)
    → now ++ all_of (map view (drop index all)) ≡ whole
    → next ++ all_of (map view (drop (index + 1) all)) ≡ whole
collected all_of one splits view now next whole all index x more here is before =
    let others = map view (drop (index + 1) all) in
    ap (λ items. items ++ all_of others) is
    ∙ append_assoc now (one (view x)) (all_of others)
    ∙ ap (λ items. now ++ items) (sym (splits (view x) others))
    ∙ ap (λ xs. now ++ all_of (map view xs)) (sym (split all index x more here))
    ∙ before

-- one entry more, where Types are numbered
pub recursive_more : (types : List (List ℕ)) (now next : Option Refusal) (number behind : ℕ) (found : Option Refusal) (all : List Entry) (index : ℕ) (e : Entry)
    → index < length all → e ≡ get_or all index e
    → ((others : List plain.Entry) → noted 21 next (recursive_in types behind others) ≡ noted 21 now (recursive_in types number (entry_view e ∷ others)))
    → noted 21 now (recursive_in types number (map entry_view (drop index all))) ≡ found
    → noted 21 next (recursive_in types behind (map entry_view (drop (index + 1) all))) ≡ found
recursive_more types now next number behind found all index e more here is before =
    is (map entry_view (drop (index + 1) all))
    ∙ ap (λ xs. noted 21 now (recursive_in types number (map entry_view xs))) (sym (split all index e more here))
    ∙ before

-- the same of items as they are
pub collected_all : {X C : Type 0} (all_of : List X → List C) (one : X → List C) → ((b : X) (bs : List X) → all_of (b ∷ bs) ≡ one b ++ all_of bs)
    → (now next whole : List C) (all : List X) (index : ℕ) (x : X)
    → index < length all → x ≡ get_or all index x
    → next ≡ now ++ one x
    → now ++ all_of (drop index all) ≡ whole
    → next ++ all_of (drop (index + 1) all) ≡ whole
collected_all all_of one splits now next whole all index x more here is before =
    let others = drop (index + 1) all in
    ap (λ items. items ++ all_of others) is
    ∙ append_assoc now (one x) (all_of others)
    ∙ ap (λ items. now ++ items) (sym (splits x others))
    ∙ ap (λ xs. now ++ all_of xs) (sym (split all index x more here))
    ∙ before

-- other places that are the same
pub noted_same : {T E : Type 0} (result : Result T E) (rule : ℕ) (next now : Option Refusal) (places others : List Place) → places ≡ others
    → OnOk result (next ≡ noted rule now places) → OnOk result (next ≡ noted rule now others)
noted_same (Ok x) rule next now places others same is = is ∙ ap (noted rule now) same
noted_same (Err x) rule next now places others same is = tt

-- what a procedure says, without a With block
pub types_noted : (s : Scope) (p : Written) (found : Option Refusal)
    → noted 16 found (in_body (λ within. types_said s) p)
    ≡ noted 16 (noted 16 found (flat_map (types_said s) (header_said p))) (walked (λ within. types_said s) (is_some p.static_word) [] p.body)
types_noted s p found = header_noted 16 (λ within. types_said s) p found

-- procedures behind the entries of a module
pub after_noted : (rule : ℕ) (places : List Place) (of : Written → List Place) (now next : Option Refusal) (es whole : List Entry)
    → es ≡ whole → now ≡ noted rule None places → next ≡ noted rule now (flat_map of (procedures_in (map entry_view es)))
    → next ≡ noted rule None (places ++ flat_map of (procedures_in (map entry_view whole)))
after_noted rule places of now next es whole same first is =
    is
    ∙ ap (λ f. noted rule f (flat_map of (procedures_in (map entry_view es)))) first
    ∙ sym (noted_append rule None places (flat_map of (procedures_in (map entry_view es))))
    ∙ ap (λ (xs : List Entry). noted rule None (places ++ flat_map of (procedures_in (map entry_view xs)))) same

pub behind_noted : (rule : ℕ) (a b d : List Place) (of : Written → List Place) (now next : Option Refusal) (es whole : List Entry)
    → es ≡ whole → now ≡ noted rule None (a ++ (b ++ d)) → next ≡ noted rule now (flat_map of (procedures_in (map entry_view es)))
    → next ≡ noted rule None (a ++ (b ++ (d ++ flat_map of (procedures_in (map entry_view whole)))))
behind_noted rule a b d of now next es whole same first is =
    let others = flat_map of (procedures_in (map entry_view whole)) in
    after_noted rule (a ++ (b ++ d)) of now next es whole same first is
    ∙ ap (noted rule None) (append_assoc a (b ++ d) others ∙ ap (λ places. a ++ places) (append_assoc b d others))
