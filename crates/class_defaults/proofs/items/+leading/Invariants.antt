use Rattle.std.proofs.Common.{◌+◌, ◌*◌}
use Rattle.class_defaults.proofs.items.+leading.Given as goal

abbrev pub decreases-led_on : goal.decreases-led_on
decreases-led_on l = 3 * l.left

abbrev pub decreases-led_class : goal.decreases-led_class
decreases-led_class l = 3 * l.left + 1

abbrev pub decreases-led_by : goal.decreases-led_by
decreases-led_by l = 3 * l.left + 2
