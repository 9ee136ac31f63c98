use Rattle.std.proofs.Common.{length}
use Rattle.run_memory.proofs.lending.+add_paths.Given as goal

abbrev pub decreases-add_paths : goal.decreases-add_paths
decreases-add_paths l = length l.slots.now
