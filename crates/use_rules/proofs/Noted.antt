-- What is found of rules at places, list by list.
use Rattle.std.proofs.Common.{◌≡◌, ℕ, Bool, true, false, List, [], ◌∷◌, ◌++◌, Option, Some, None, refl, sym, ap, ◌∙◌}
use Rattle.std.specs.Prelude.{not}
use Rattle.vba_base.specs.declared.place.Place.{Place}
use Rattle.vba_base.specs.declared.place.Refusal.{Refusal}
use Rattle.refusal_order.specs.Least.{lesser, least_of, least_of_both, broken_if}
use Rattle.refusal_order.proofs.LeastFound.{least_of_two, least_of_alone}
use Rattle.vba_module.specs.Misplaced.{place_if}
use Rattle.vba_module.specs.Verdict.{broken}
use Rattle.declared_names.specs.binder.specs.Violations.{unless_true}
use Rattle.use_rules.specs.Found.{noted}

pub noted_if : (found : Option Refusal) (b : Bool) (rule : ℕ) (place : Place) → least_of found (broken_if b rule place) ≡ noted rule found (place_if b place)
noted_if found true rule place = refl
noted_if found false rule place = refl

pub noted_append : (rule : ℕ) (found : Option Refusal) (places others : List Place) → noted rule found (places ++ others) ≡ noted rule (noted rule found places) others
noted_append rule found [] others = refl
noted_append rule found (place ∷ places) others = noted_append rule (Some (lesser found (record { rule = rule; place = place }))) places others

pub noted_broken : (rule : ℕ) (found : Option Refusal) (places : List Place) → noted rule found places ≡ least_of found (broken rule places)
noted_broken rule found [] = refl
noted_broken rule found (place ∷ places) = noted_broken rule (Some (lesser found (record { rule = rule; place = place }))) places

-- what was found elsewhere, behind what was found
pub noted_alone : (rule : ℕ) (found : Option Refusal) (places : List Place) → least_of_both found (noted rule None places) ≡ noted rule found places
noted_alone rule found places =
    ap (least_of_both found) (noted_broken rule None places)
    ∙ (sym (least_of_alone found (broken rule places)) ∙ sym (noted_broken rule found places))

pub noted_both : (rule : ℕ) (places others : List Place)
    → noted rule None (places ++ others) ≡ least_of_both (noted rule None places) (noted rule None others)
noted_both rule places others =
    noted_append rule None places others ∙ sym (noted_alone rule (noted rule None places) others)

pub unless_if : (b : Bool) (place : Place) → unless_true b place ≡ place_if (not b) place
unless_if true place = refl
unless_if false place = refl
