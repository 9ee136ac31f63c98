-- A Then that is not the last token ends no expression.
use Rattle.std.proofs.Common.{◌∙◌, ap, arith, sym}
use Rattle.cond_compile.specs.Evaluation.{of_leaf, values}
use Rattle.cond_compile.specs.Pieces.{is_then, piece_behind}
use Rattle.cond_compile.specs.Seen.{constants_view, state}
use Rattle.cond_compile.proofs.Reading.{then_not_last}
use Rattle.cond_compile.proofs.reader.advance.Goals as goal

pub returns-then-not-is_empty : goal.returns-then-not-is_empty
returns-then-not-is_empty c =
    then_not_last values (of_leaf (constants_view c.args.constants.now)) (state c.args.mode c.args.frames.now.items)
    (piece_behind c.args.source.now c.args.previous.now c.args.token.now) c.args.source.now c.args.token.now c.args.rest.now
    (ap is_then (sym c.in_ok-piece.ensures) ∙ (sym c.is_then.ensures ∙ c.if-is_then.true))
    (grind (arith, c.is_empty.ensures, c.if-not-is_empty.true))
