use Rattle.std.proofs.Common.{arith}
use Rattle.std.proofs.Math.Nat.{pow-suc}
use Rattle.std.proofs.Math.Numerals.{add-one}
use Rattle.currency.proofs.cut.with_zeros.Goals as goal

pub loop-preserved : goal.loop-preserved
loop-preserved c = rw (add-one, pow-suc) (omega (arith, c.saturating_mul-size.ensures, c.loop.invariant))
