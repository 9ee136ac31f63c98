use Rattle.std.proofs.Common.{length}
use Rattle.run_host.proofs.by_name.+slot_given.Given as goal

abbrev pub decreases-slot_given : goal.decreases-slot_given
decreases-slot_given l = length l.order.now
