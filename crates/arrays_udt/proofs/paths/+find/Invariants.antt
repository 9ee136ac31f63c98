use Rattle.std.proofs.Common.{◌+◌, ◌*◌, length}
use Rattle.arrays_udt.proofs.paths.+find.Given as goal

abbrev pub decreases-has_path : goal.decreases-has_path
decreases-has_path l = 2 * length l.path.now

abbrev pub decreases-has_inner : goal.decreases-has_inner
decreases-has_inner l = 2 * length l.path.now + 1
