use Rattle.std.proofs.Common.{◌+◌, ◌*◌}
use Rattle.run_defaults.proofs.setting.+setting.Given as goal

abbrev pub decreases-set_passed : goal.decreases-set_passed
decreases-set_passed l = 10 * l.left

abbrev pub decreases-set_by_reader : goal.decreases-set_by_reader
decreases-set_by_reader l = 10 * l.left + 1

abbrev pub decreases-set_default : goal.decreases-set_default
decreases-set_default l = 10 * l.left + 2

abbrev pub decreases-set_own : goal.decreases-set_own
decreases-set_own l = 10 * l.left + 3

abbrev pub decreases-set_along : goal.decreases-set_along
decreases-set_along l = 10 * l.left + 4

abbrev pub decreases-set_next : goal.decreases-set_next
decreases-set_next l = 10 * l.left + 5

abbrev pub decreases-set_read : goal.decreases-set_read
decreases-set_read l = 10 * l.left + 6

abbrev pub decreases-set_there : goal.decreases-set_there
decreases-set_there l = 10 * l.left + 7

abbrev pub decreases-set_in_place : goal.decreases-set_in_place
decreases-set_in_place l = 10 * l.left + 8

abbrev pub decreases-set_leads : goal.decreases-set_leads
decreases-set_leads l = 10 * l.left + 9
