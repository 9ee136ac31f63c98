use Rattle.std.proofs.Common.{◌+◌, ◌*◌}
use Rattle.class_defaults.proofs.items.+setting.Given as goal

abbrev pub decreases-set_on : goal.decreases-set_on
decreases-set_on l = 3 * l.left

abbrev pub decreases-set_class : goal.decreases-set_class
decreases-set_class l = 3 * l.left + 1

abbrev pub decreases-set_by : goal.decreases-set_by
decreases-set_by l = 3 * l.left + 2
