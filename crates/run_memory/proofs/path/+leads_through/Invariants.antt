use Rattle.std.proofs.Common.{length}
use Rattle.run_memory.proofs.path.+leads_through.Given as goal

abbrev pub decreases-leads_through : goal.decreases-leads_through
decreases-leads_through l = length l.place.now
