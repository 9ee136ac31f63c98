use Rattle.std.proofs.Common.{length}
use Rattle.run_late.proofs.names.+place_of_name.Given as goal

abbrev pub decreases-place_of_name : goal.decreases-place_of_name
decreases-place_of_name l = length l.order.now
