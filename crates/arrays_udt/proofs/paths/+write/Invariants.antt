use Rattle.std.proofs.Common.{◌+◌, ◌*◌, length}
use Rattle.arrays_udt.proofs.paths.+write.Given as goal

abbrev pub decreases-path_write : goal.decreases-path_write
decreases-path_write l = 4 * length l.path.now

abbrev pub decreases-write_inside : goal.decreases-write_inside
decreases-write_inside l = 4 * length l.path.now + 3

abbrev pub decreases-write_element : goal.decreases-write_element
decreases-write_element l = 4 * length l.path.now + 2

abbrev pub decreases-write_field : goal.decreases-write_field
decreases-write_field l = 4 * length l.path.now + 2

abbrev pub decreases-write_inner : goal.decreases-write_inner
decreases-write_inner l = 4 * length l.path.now + 1
