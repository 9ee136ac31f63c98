use Rattle.std.proofs.Common.{length}
use Rattle.run_memory.proofs.leaving.+add_objects_in.Given as goal

abbrev pub decreases-add_objects_in : goal.decreases-add_objects_in
decreases-add_objects_in l = length l.values.now
