-- S23, entry by entry and module by module.
use Rattle.std.proofs.Common.{◌≡◌, ℕ, Bool, List, [], ◌∷◌, ◌++◌, map, Option, None, refl, sym, ap, ◌∙◌}
use Rattle.std.specs.Prelude.{flat_map, Result, Ok, Err, OnOk}
use Rattle.std.proofs.lemmas.List.Folds.{flat_map-map}
use Rattle.vba_base.specs.declared.place.Place.{Place}
use Rattle.vba_base.specs.declared.place.Refusal.{Refusal}
use Rattle.refusal_order.specs.Least.{least_of}
use Rattle.vba_words.specs.declared.identifier.Identifier.{Identifier}
use Rattle.vba_tree.specs.Tree.{Parameter}
use Rattle.vba_module.specs.Verdict.{broken}
use Rattle.constant_values.specs.declared_names.specs.binder.specs.Declarations.{What, a_variable, a_constant, an_enum, a_member, a_type, an_event, a_procedure, Written}
use Rattle.constant_values.specs.declared_names.specs.binder.specs.LeftOut.{entry_left_out, event_left_out, parameters_left_out, procedure_left_out, said_left_out, suffix_left_out}
use Rattle.constant_values.specs.declared_names.specs.binder.specs.Names.{scope_in}
use Rattle.constant_values.specs.declared_names.specs.binder.specs.Said.{Said, entry_said}
use Rattle.constant_values.specs.declared_names.specs.binder.specs.Scopes.{Scope}
use Rattle.constant_values.specs.declared_names.specs.binder.specs.Violations.{in_body, procedures_in}
use Rattle.constant_values.specs.declared_names.specs.declared.entry.Entry.{Entry}
use Rattle.constant_values.specs.declared_names.specs.View.{entry_view}
use Rattle.use_rules.specs.Found.{noted}
use Rattle.use_rules.proofs.Noted.{noted_append, noted_broken}

pub suffixes_of : (ps : List Parameter) → flat_map suffix_left_out (map (λ (p : Parameter). p.name) ps) ≡ parameters_left_out ps
suffixes_of ps = flat_map-map suffix_left_out (λ (p : Parameter). p.name) ps

-- an entry: its name, the parameters of an event, and what it says
entry_split : (s : Scope) (x : Identifier) (public : Bool) (w : What)
    → entry_left_out s (record { name = x; is_public = public; what = w }) ≡ suffix_left_out x ++ (event_left_out w ++ flat_map (said_left_out s) (entry_said w))
entry_split s x public (a_variable v) = refl
entry_split s x public (a_constant c) = refl
entry_split s x public an_enum = refl
entry_split s x public (a_member value steps) = refl
entry_split s x public (a_type fields) = refl
entry_split s x public (an_event ps) = refl
entry_split s x public (a_procedure p) = refl

pub entry_noted : (s : Scope) (x : Identifier) (public : Bool) (w : What) (found : Option Refusal)
    → noted 23 (noted 23 (noted 23 found (suffix_left_out x)) (event_left_out w)) (flat_map (said_left_out s) (entry_said w))
    ≡ noted 23 found (entry_left_out s (record { name = x; is_public = public; what = w }))
entry_noted s x public w found =
    let said = flat_map (said_left_out s) (entry_said w) in
    sym (noted_append 23 (noted 23 found (suffix_left_out x)) (event_left_out w) said)
    ∙ sym (noted_append 23 found (suffix_left_out x) (event_left_out w ++ said))
    ∙ ap (noted 23 found) (sym (entry_split s x public w))

-- the same behind its calls, one after the other
pub entry_ended : {T E : Type 0} (result : Result T E) (s : Scope) (x : Identifier) (public : Bool) (w : What) (said : List Said) (next after now found : Option Refusal)
    → said ≡ entry_said w → now ≡ noted 23 found (suffix_left_out x) → after ≡ noted 23 now (event_left_out w)
    → OnOk result (next ≡ noted 23 after (flat_map (said_left_out s) said))
    → OnOk result (next ≡ noted 23 found (entry_left_out s (record { name = x; is_public = public; what = w })))
entry_ended (Ok y) s x public w said next after now found same first second is =
    is
    ∙ ap (λ all. noted 23 after (flat_map (said_left_out s) all)) same
    ∙ ap (λ f. noted 23 f (flat_map (said_left_out s) (entry_said w))) (second ∙ ap (λ f. noted 23 f (event_left_out w)) first)
    ∙ entry_noted s x public w found
entry_ended (Err y) s x public w said next after now found same first second is = tt

-- a procedure: its parameters, and then what it says
pub procedure_noted : {T E : Type 0} (result : Result T E) (s : Scope) (p : Written) (next now found : Option Refusal)
    → now ≡ noted 23 found (parameters_left_out p.parameters)
    → OnOk result (next ≡ noted 23 now (in_body (λ within. said_left_out s) p))
    → OnOk result (next ≡ noted 23 found (procedure_left_out s p))
procedure_noted (Ok x) s p next now found first is =
    is
    ∙ ap (λ f. noted 23 f (in_body (λ within. said_left_out s) p)) first
    ∙ sym (noted_append 23 found (parameters_left_out p.parameters) (in_body (λ within. said_left_out s) p))
procedure_noted (Err x) s p next now found first is = tt

-- a module: its entries, and then its procedures
abbrev of_procedures : Scope → List Entry → List Place
of_procedures s es = flat_map (λ (p : Written). procedure_left_out (scope_in s p) p) (procedures_in (map entry_view es))

pub module_noted : {T E : Type 0} (result : Result T E) (s : Scope) (es whole : List Entry) (next now found : Option Refusal)
    → es ≡ whole
    → now ≡ noted 23 found (flat_map (entry_left_out s) (map entry_view es))
    → OnOk result (next ≡ noted 23 now (flat_map (λ (p : Written). procedure_left_out (scope_in s p) p) (procedures_in (map entry_view es))))
    → OnOk result (next ≡ noted 23 found (flat_map (entry_left_out s) (map entry_view whole)
    ++ flat_map (λ (p : Written). procedure_left_out (scope_in s p) p) (procedures_in (map entry_view whole))))
module_noted (Ok x) s es whole next now found same first is =
    is
    ∙ ap (λ f. noted 23 f (of_procedures s es)) first
    ∙ sym (noted_append 23 found (flat_map (entry_left_out s) (map entry_view es)) (of_procedures s es))
    ∙ ap (λ (xs : List Entry). noted 23 found (flat_map (entry_left_out s) (map entry_view xs) ++ of_procedures s xs)) same
module_noted (Err x) s es whole next now found same first is = tt

-- the least place of a module
pub module_found : (places : List Place) → noted 23 None places ≡ least_of None (broken 23 places)
module_found places = noted_broken 23 None places
