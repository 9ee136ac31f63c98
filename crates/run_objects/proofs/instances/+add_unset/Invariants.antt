use Rattle.std.proofs.Common.{length}
use Rattle.run_objects.proofs.instances.+add_unset.Given as goal

abbrev pub decreases-add_unset : goal.decreases-add_unset
decreases-add_unset l = length l.with_events.now
