use Rattle.std.proofs.Common.{length}
use Rattle.constant_values.proofs.bounds.+count_places.Given as goal

abbrev pub decreases-count_places : goal.decreases-count_places
decreases-count_places l = length l.bounds.now
