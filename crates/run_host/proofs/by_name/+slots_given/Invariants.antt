use Rattle.std.proofs.Common.{length}
use Rattle.run_host.proofs.by_name.+slots_given.Given as goal

abbrev pub decreases-slots_given : goal.decreases-slots_given
decreases-slots_given l = length l.left.now
