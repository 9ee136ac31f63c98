use Rattle.std.proofs.Common.{length}
use Rattle.run_memory.proofs.path.+any_moves.Given as goal

abbrev pub decreases-any_moves : goal.decreases-any_moves
decreases-any_moves l = length l.steps.now
