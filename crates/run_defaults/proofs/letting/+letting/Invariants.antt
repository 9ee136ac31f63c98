use Rattle.std.proofs.Common.{◌+◌, ◌*◌}
use Rattle.run_defaults.proofs.letting.+letting.Given as goal

abbrev pub decreases-let_passed : goal.decreases-let_passed
decreases-let_passed l = 10 * l.left

abbrev pub decreases-let_by_reader : goal.decreases-let_by_reader
decreases-let_by_reader l = 10 * l.left + 1

abbrev pub decreases-let_default : goal.decreases-let_default
decreases-let_default l = 10 * l.left + 2

abbrev pub decreases-let_own : goal.decreases-let_own
decreases-let_own l = 10 * l.left + 3

abbrev pub decreases-let_along : goal.decreases-let_along
decreases-let_along l = 10 * l.left + 4

abbrev pub decreases-let_next : goal.decreases-let_next
decreases-let_next l = 10 * l.left + 5

abbrev pub decreases-let_read : goal.decreases-let_read
decreases-let_read l = 10 * l.left + 6

abbrev pub decreases-let_there : goal.decreases-let_there
decreases-let_there l = 10 * l.left + 7

abbrev pub decreases-let_in_place : goal.decreases-let_in_place
decreases-let_in_place l = 10 * l.left + 8

abbrev pub decreases-let_leads : goal.decreases-let_leads
decreases-let_leads l = 10 * l.left + 9
