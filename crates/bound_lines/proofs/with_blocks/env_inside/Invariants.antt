use Rattle.std.proofs.Common.{length}
use Rattle.bound_lines.specs.Round.{Inside}
use Rattle.bound_lines.proofs.with_blocks.env_inside.Given as goal

abbrev pub invariant-entering : goal.invariant-entering
invariant-entering l = Inside l.around l.body l.blocks l.env l.left

abbrev pub decreases-entering : goal.decreases-entering
decreases-entering l = length l.left
