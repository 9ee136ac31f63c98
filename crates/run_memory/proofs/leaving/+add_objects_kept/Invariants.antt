use Rattle.std.proofs.Common.{length}
use Rattle.run_memory.proofs.leaving.+add_objects_kept.Given as goal

abbrev pub decreases-add_objects_kept : goal.decreases-add_objects_kept
decreases-add_objects_kept l = length l.keeps.now
