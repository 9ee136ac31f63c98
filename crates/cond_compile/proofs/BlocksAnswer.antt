-- Lines that are not refused are a block's, and are kept as it tells.
use Rattle.std.proofs.Common.{◌≡◌, ℕ, List, [], None, Result, Ok, sym, ap, ◌∙◌, subst}
use Rattle.std.specs.Result.{result_err}
use Rattle.std.proofs.lemmas.List.Elements.{All-nil}
use Rattle.vba_base.specs.declared.place.Refusal.{Refusal}
use Rattle.vba_lexer.specs.Lexed.{LexedLine}
use Rattle.vba_lexer.specs.Order.{IsLeastOf}
use Rattle.cond_compile.specs.Blocks.{Block, IsBlock, NoneBy, kept_of, lines_of}
use Rattle.refusal_order.specs.Least.{least_of}
use Rattle.cond_compile.specs.Selection.{kept_lines, opening, selected, violations}
use Rattle.cond_compile.proofs.BlocksFound.{block_found, Other}
use Rattle.cond_compile.proofs.BlocksKept.{kept_by_blocks}
use Rattle.cond_compile.proofs.Kept.{kept_by}
use Rattle.cond_compile.proofs.LeastRefusals.{selected_least}

pub answered_by_block : (source : List ℕ) (lines kept : List LexedLine) → selected source lines ≡ Ok kept
    → (block : Block) × IsBlock source block × (lines_of block ≡ lines) × (kept ≡ (kept_of source opening.constants block).lines)
answered_by_block source lines kept is =
    let none : violations source opening lines ≡ [] =
    subst (λ (answer : Result (List LexedLine) Refusal). IsLeastOf (violations source opening lines) (result_err answer)) is (selected_least source lines) in
    let found = block_found source lines (subst (NoneBy 8) (sym none) (All-nil Other)) in
    let all : kept_lines source opening lines ≡ kept = kept_by (least_of None (violations source opening lines)) (kept_lines source opening lines) kept is in
    (found.0, found.1, found.2, sym all ∙ ap (kept_lines source opening) (sym found.2) ∙ kept_by_blocks source found.0 found.1)
