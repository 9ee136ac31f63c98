use Rattle.std.proofs.Common.{◌+◌, ◌*◌}
use Rattle.run_defaults.proofs.writing.+writing.Given as goal

abbrev pub decreases-write_passed : goal.decreases-write_passed
decreases-write_passed l = 6 * l.left

abbrev pub decreases-write_variable : goal.decreases-write_variable
decreases-write_variable l = 6 * l.left + 1

abbrev pub decreases-write_default : goal.decreases-write_default
decreases-write_default l = 6 * l.left + 2

abbrev pub decreases-write_own : goal.decreases-write_own
decreases-write_own l = 6 * l.left + 3

abbrev pub decreases-write_along : goal.decreases-write_along
decreases-write_along l = 6 * l.left + 4

abbrev pub decreases-write_next : goal.decreases-write_next
decreases-write_next l = 6 * l.left + 5
