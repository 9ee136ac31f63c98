-- The least of the rules that a module breaks, and the first module that breaks one.
use Rattle.std.proofs.Common.{◌≡◌, ℕ, zero, suc, ◌+◌, ◌<◌, Bool, true, false, List, [], ◌∷◌, ◌++◌, length, drop, get_or, map, Option, Some, None, refl, sym, ap, ◌∙◌, arith}
use Rattle.std.specs.Prelude.{if◌then◌else◌, slice_get}
use Rattle.std.proofs.lemmas.List.{drop_more}
use Rattle.vba_base.specs.declared.place.Place.{Place}
use Rattle.vba_base.specs.declared.place.Refusal.{Refusal}
use Rattle.refusal_order.specs.Least.{least_of, least_of_both}
use Rattle.refusal_order.proofs.LeastFound.{least_of_append}
use Rattle.vba_module.specs.Misplaced.{place_if}
use Rattle.vba_module.specs.Verdict.{broken}
use Rattle.constant_values.specs.declared_names.specs.binder.specs.Options.{or_else}
use Rattle.constant_values.specs.declared_names.specs.binder.specs.Violations.{first_broken}
use Rattle.name_rules.specs.Judged.{least_of_eight}
use Rattle.use_rules.specs.Found.{noted}
use Rattle.use_rules.proofs.Noted.{noted_broken, noted_alone}

pub place_if_is : (b : Bool) (place : Place) → (if b then place ∷ [] else []) ≡ place_if b place
place_if_is true place = refl
place_if_is false place = refl

-- one rule more
rule_more : (found : Option Refusal) (rule : ℕ) (places : List Place) (others : List Refusal)
    → least_of found (broken rule places ++ others) ≡ least_of (least_of_both found (noted rule None places)) others
rule_more found rule places others =
    least_of_append found (broken rule places) others
    ∙ ap (λ f. least_of f others) (sym (noted_alone rule found places ∙ noted_broken rule found places))

pub all_broken : (a b c d e f g h : List Place)
    → least_of None (broken 15 a ++ (broken 16 b ++ (broken 17 c ++ (broken 18 d ++ (broken 19 e ++ (broken 20 f ++ (broken 21 g ++ broken 22 h)))))))
    ≡ least_of_eight (noted 15 None a) (noted 16 None b) (noted 17 None c) (noted 18 None d) (noted 19 None e) (noted 20 None f) (noted 21 None g) (noted 22 None h)
all_broken a b c d e f g h =
    let l1 = noted 15 None a in
    let l2 = least_of_both l1 (noted 16 None b) in
    let l3 = least_of_both l2 (noted 17 None c) in
    let l4 = least_of_both l3 (noted 18 None d) in
    let l5 = least_of_both l4 (noted 19 None e) in
    let l6 = least_of_both l5 (noted 20 None f) in
    let l7 = least_of_both l6 (noted 21 None g) in
    let rs8 = broken 22 h in
    let rs7 = broken 21 g ++ rs8 in
    let rs6 = broken 20 f ++ rs7 in
    let rs5 = broken 19 e ++ rs6 in
    let rs4 = broken 18 d ++ rs5 in
    let rs3 = broken 17 c ++ rs4 in
    let rs2 = broken 16 b ++ rs3 in
    least_of_append None (broken 15 a) rs2
    ∙ ap (λ l. least_of l rs2) (sym (noted_broken 15 None a))
    ∙ rule_more l1 16 b rs3
    ∙ rule_more l2 17 c rs4
    ∙ rule_more l3 18 d rs5
    ∙ rule_more l4 19 e rs6
    ∙ rule_more l5 20 f rs7
    ∙ rule_more l6 21 g rs8
    ∙ sym (noted_alone 22 l7 h ∙ noted_broken 22 l7 h)

split : {X : Type 0} (all : List X) (index : ℕ) (x : X) → index < length all → x ≡ get_or all index x → drop index all ≡ x ∷ drop (index + 1) all
split all index x more here = drop_more all index x more ∙ ap (λ y. y ∷ drop (index + 1) all) (sym here)

-- a module among the modules stands at its place
pub get_mapped : {X Y : Type 0} (view : X → Y) (all : List X) (index : ℕ) (x : X) → index < length all → x ≡ get_or all index x → slice_get (map view all) index ≡ Some (view x)
get_mapped view [] index x more here = absurd (omega arith)
get_mapped view (y ∷ all) zero x more here = ap (λ z. Some (view z)) (sym here)
get_mapped view (y ∷ all) (suc index) x more here = get_mapped view all index x (omega arith) here

-- a module that breaks no rule, and one that breaks one
pub module_passed : {X B : Type 0} (of : B → List Refusal) (view : X → B) (all : List X) (index : ℕ) (x : X) (whole : Option Refusal)
    → index < length all → x ≡ get_or all index x
    → least_of None (of (view x)) ≡ None
    → first_broken (map of (map view (drop index all))) ≡ whole
    → first_broken (map of (map view (drop (index + 1) all))) ≡ whole
module_passed of view all index x whole more here none before =
    ap (λ first. or_else first (first_broken (map of (map view (drop (index + 1) all))))) (sym none)
    ∙ ap (λ xs. first_broken (map of (map view xs))) (sym (split all index x more here))
    ∙ before

pub module_broken : {X B : Type 0} (of : B → List Refusal) (view : X → B) (all : List X) (index : ℕ) (x : X) (least : Refusal) (whole : Option Refusal)
    → index < length all → x ≡ get_or all index x
    → Some least ≡ least_of None (of (view x))
    → first_broken (map of (map view (drop index all))) ≡ whole
    → Some least ≡ whole
module_broken of view all index x least whole more here is before =
    ap (λ first. or_else first (first_broken (map of (map view (drop (index + 1) all))))) is
    ∙ ap (λ xs. first_broken (map of (map view xs))) (sym (split all index x more here))
    ∙ before
