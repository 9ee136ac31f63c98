use Rattle.std.proofs.Common.{length}
use Rattle.run_host.proofs.by_name.+is_given.Given as goal

abbrev pub decreases-is_given : goal.decreases-is_given
decreases-is_given l = length l.order.now
