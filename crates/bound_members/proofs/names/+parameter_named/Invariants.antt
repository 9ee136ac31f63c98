use Rattle.std.proofs.Common.{length}
use Rattle.bound_members.proofs.names.+parameter_named.Given as goal

abbrev pub decreases-parameter_named : goal.decreases-parameter_named
decreases-parameter_named l = length l.parameters.now
