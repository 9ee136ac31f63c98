use Rattle.std.proofs.Common.{length}
use Rattle.run_events.proofs.links.+any_numbered.Given as goal

abbrev pub decreases-any_numbered : goal.decreases-any_numbered
decreases-any_numbered l = length l.entries.now
