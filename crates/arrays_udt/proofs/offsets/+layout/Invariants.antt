use Rattle.std.proofs.Common.{length}
use Rattle.arrays_udt.proofs.offsets.+layout.Given as goal

abbrev pub decreases-layout : goal.decreases-layout
decreases-layout l = length l.bounds.now
