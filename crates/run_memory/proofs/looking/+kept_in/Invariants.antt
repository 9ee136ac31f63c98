use Rattle.std.proofs.Common.{length}
use Rattle.run_memory.proofs.looking.+kept_in.Given as goal

abbrev pub decreases-kept_in : goal.decreases-kept_in
decreases-kept_in l = length l.keeps.now
