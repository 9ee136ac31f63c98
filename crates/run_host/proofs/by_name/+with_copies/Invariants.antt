use Rattle.std.proofs.Common.{length}
use Rattle.run_host.proofs.by_name.+with_copies.Given as goal

abbrev pub decreases-with_copies : goal.decreases-with_copies
decreases-with_copies l = length l.slots.now
