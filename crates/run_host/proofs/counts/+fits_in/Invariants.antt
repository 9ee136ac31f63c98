use Rattle.std.proofs.Common.{length}
use Rattle.run_host.proofs.counts.+fits_in.Given as goal

abbrev pub decreases-fits_in : goal.decreases-fits_in
decreases-fits_in l = length l.takes.now
