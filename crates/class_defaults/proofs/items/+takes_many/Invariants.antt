use Rattle.std.proofs.Common.{length}
use Rattle.class_defaults.proofs.items.+takes_many.Given as goal

abbrev pub decreases-takes_many : goal.decreases-takes_many
decreases-takes_many l = length l.parameters.now
