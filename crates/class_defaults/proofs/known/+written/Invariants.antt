use Rattle.std.proofs.Common.{◌+◌, ◌*◌}
use Rattle.class_defaults.proofs.known.+written.Given as goal

abbrev pub decreases-written_on : goal.decreases-written_on
decreases-written_on l = 3 * l.left

abbrev pub decreases-written_class : goal.decreases-written_class
decreases-written_class l = 3 * l.left + 1

abbrev pub decreases-written_by : goal.decreases-written_by
decreases-written_by l = 3 * l.left + 2
