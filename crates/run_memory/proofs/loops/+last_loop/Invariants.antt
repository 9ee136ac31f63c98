use Rattle.std.proofs.Common.{length}
use Rattle.run_memory.proofs.loops.+last_loop.Given as goal

abbrev pub decreases-last_loop : goal.decreases-last_loop
decreases-last_loop l = length l.loops.now
