use Rattle.std.proofs.Common.{length}
use Rattle.run_late.proofs.arranging.+add_copies.Given as goal

abbrev pub decreases-add_copies : goal.decreases-add_copies
decreases-add_copies l = length l.slots.now
