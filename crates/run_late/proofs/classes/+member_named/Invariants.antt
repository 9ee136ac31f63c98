use Rattle.std.proofs.Common.{length}
use Rattle.run_late.proofs.classes.+member_named.Given as goal

abbrev pub decreases-member_named : goal.decreases-member_named
decreases-member_named l = length l.members.now
