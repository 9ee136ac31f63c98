-- The refusal that is found is the least.
use Rattle.std.proofs.Common.{◌≡◌, ℕ, List, Option, Some, None, refl, subst}
use Rattle.std.specs.Result.{result_err}
use Rattle.vba_base.specs.declared.place.Refusal.{Refusal}
use Rattle.vba_lexer.specs.Lexed.{LexedLine}
use Rattle.vba_lexer.specs.Order.{IsLeastOf}
use Rattle.refusal_order.specs.Least.{least_of}
use Rattle.refusal_order.proofs.LeastFound.{least_of_least}
use Rattle.cond_compile.specs.Selection.{kept_lines, opening, selected, verdict, violations}

result_err-verdict : (least : Option Refusal) (kept : List LexedLine) → least ≡ result_err (verdict least kept)
result_err-verdict None kept = refl
result_err-verdict (Some refusal) kept = refl

pub selected_least : (source : List ℕ) (lines : List LexedLine) → IsLeastOf (violations source opening lines) (result_err (selected source lines))
selected_least source lines =
    subst (IsLeastOf (violations source opening lines))
    (result_err-verdict (least_of None (violations source opening lines)) (kept_lines source opening lines))
    (least_of_least (violations source opening lines))
