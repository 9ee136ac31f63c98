use Rattle.std.proofs.Common.{length}
use Rattle.run_defaults.proofs.parameters.+all_left_out.Given as goal

abbrev pub decreases-all_left_out : goal.decreases-all_left_out
decreases-all_left_out l = length l.parameters.now
