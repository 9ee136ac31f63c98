use Rattle.std.proofs.Common.{length}
use Rattle.run_host.proofs.by_name.+are_given.Given as goal

abbrev pub decreases-are_given : goal.decreases-are_given
decreases-are_given l = length l.order.now
