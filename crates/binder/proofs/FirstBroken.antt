-- The verdict is the least refusal of the first module that breaks a rule.
use Rattle.std.proofs.Common.{List, [], ◌∷◌, Option, Some, None, refl, inl, inr}
use Rattle.vba_base.specs.declared.place.Refusal.{Refusal}
use Rattle.vba_lexer.specs.Order.{IsLeastOf}
use Rattle.refusal_order.specs.Least.{least_of}
use Rattle.refusal_order.proofs.LeastFound.{least_of_least}
use Rattle.binder.specs.Options.{or_else}
use Rattle.binder.specs.Violations.{first_broken, IsFirstBroken}

pub first_broken_least : (lists : List (List Refusal)) → IsFirstBroken lists (first_broken lists)
first_broken_least [] = refl
first_broken_least (refusals ∷ lists) = by_least (least_of None refusals) (least_of_least refusals) (first_broken_least lists)
  where
    by_least : (found : Option Refusal) → IsLeastOf refusals found → IsFirstBroken lists (first_broken lists)
        → IsFirstBroken (refusals ∷ lists) (or_else found (first_broken lists))
    by_least None empty behind = inl (empty, behind)
    by_least (Some least) is behind = inr (least, is, refl)
