use Rattle.std.proofs.Common.{length}
use Rattle.run_events.proofs.handlers.+handler_in.Given as goal

abbrev pub decreases-handler_in : goal.decreases-handler_in
decreases-handler_in l = length l.handlers.now
