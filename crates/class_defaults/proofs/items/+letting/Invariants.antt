use Rattle.std.proofs.Common.{◌+◌, ◌*◌}
use Rattle.class_defaults.proofs.items.+letting.Given as goal

abbrev pub decreases-let_on : goal.decreases-let_on
decreases-let_on l = 3 * l.left

abbrev pub decreases-let_class : goal.decreases-let_class
decreases-let_class l = 3 * l.left + 1

abbrev pub decreases-let_by : goal.decreases-let_by
decreases-let_by l = 3 * l.left + 2
