use Rattle.std.proofs.Common.{length}
use Rattle.run_late.proofs.arguments.+given_twice.Given as goal

abbrev pub decreases-given_twice : goal.decreases-given_twice
decreases-given_twice l = length l.order.now
