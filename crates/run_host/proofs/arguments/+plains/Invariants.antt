use Rattle.std.proofs.Common.{length}
use Rattle.run_host.proofs.arguments.+plains.Given as goal

abbrev pub decreases-plains : goal.decreases-plains
decreases-plains l = length l.slots.now
