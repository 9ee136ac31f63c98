-- What is found of rules at places, list by list.
use Rattle.std.proofs.Common.{◌≡◌, ℕ, Bool, true, false, List, [], ◌∷◌, ◌++◌, Option, Some, None, refl, sym, ap, ◌∙◌}
use Rattle.vba_base.specs.declared.place.Place.{Place}
use Rattle.vba_base.specs.declared.place.Refusal.{Refusal}
use Rattle.refusal_order.specs.Least.{lesser, least_of, least_of_both, broken_if}
use Rattle.refusal_order.proofs.LeastFound.{least_of_two}
use Rattle.vba_module.specs.Misplaced.{place_if}
use Rattle.vba_module.specs.Verdict.{broken}
use Rattle.module_rules.specs.Found.{noted}

pub noted_if : (found : Option Refusal) (b : Bool) (rule : ℕ) (place : Place) → least_of found (broken_if b rule place) ≡ noted rule found (place_if b place)
noted_if found true rule place = refl
noted_if found false rule place = refl

pub noted_append : (rule : ℕ) (found : Option Refusal) (places others : List Place) → noted rule found (places ++ others) ≡ noted rule (noted rule found places) others
noted_append rule found [] others = refl
noted_append rule found (place ∷ places) others = noted_append rule (Some (lesser found (record { rule = rule; place = place }))) places others

pub noted_broken : (rule : ℕ) (found : Option Refusal) (places : List Place) → noted rule found places ≡ least_of found (broken rule places)
noted_broken rule found [] = refl
noted_broken rule found (place ∷ places) = noted_broken rule (Some (lesser found (record { rule = rule; place = place }))) places

-- the least of three rules, each found by itself
pub all_noted : (first second third : ℕ) (places others more : List Place)
    → least_of_both (noted first None places) (least_of_both (noted second None others) (noted third None more))
    ≡ least_of None (broken first places ++ (broken second others ++ broken third more))
all_noted first second third places others more =
    rw (noted_broken first None places, noted_broken second None others, noted_broken third None more)
    (sym (least_of_two None (broken first places) (broken second others ++ broken third more)
    ∙ ap (least_of_both (least_of None (broken first places))) (least_of_two None (broken second others) (broken third more))))
