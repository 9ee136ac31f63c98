use Rattle.std.proofs.Common.{◌+◌, ◌*◌, length}
use Rattle.arrays_udt.proofs.paths.+read.Given as goal

abbrev pub decreases-path_read : goal.decreases-path_read
decreases-path_read l = 2 * length l.path.now

abbrev pub decreases-read_inner : goal.decreases-read_inner
decreases-read_inner l = 2 * length l.path.now + 1
