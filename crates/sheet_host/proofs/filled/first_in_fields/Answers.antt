use Rattle.std.proofs.Common.{arith, below_more}
use Rattle.sheet_host.proofs.Searches.{is_false, is_true}
use Rattle.sheet_host.proofs.filled.first_in_fields.Goals as goal

pub returns-then-is_filled : goal.returns-then-is_filled
returns-then-is_filled c = (omega arith, omega arith, is_true _ _ c.is_filled.ensures c.if-is_filled.true, c.loop-column.invariant)

pub loop-column-preserved : goal.loop-column-preserved
loop-column-preserved c = below_more _ _ c.loop-column.invariant (λ _. is_false _ _ c.is_filled.ensures c.if-is_filled.false)
