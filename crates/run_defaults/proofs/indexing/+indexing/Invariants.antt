use Rattle.std.proofs.Common.{◌+◌, ◌*◌}
use Rattle.run_defaults.proofs.indexing.+indexing.Given as goal

abbrev pub decreases-index_passed : goal.decreases-index_passed
decreases-index_passed l = 5 * l.left

abbrev pub decreases-index_default : goal.decreases-index_default
decreases-index_default l = 5 * l.left + 1

abbrev pub decreases-index_own : goal.decreases-index_own
decreases-index_own l = 5 * l.left + 2

abbrev pub decreases-index_along : goal.decreases-index_along
decreases-index_along l = 5 * l.left + 3

abbrev pub decreases-index_next : goal.decreases-index_next
decreases-index_next l = 5 * l.left + 4
