use Rattle.std.proofs.Common.{length}
use Rattle.run_memory.proofs.calls.+release.Given as goal

abbrev pub decreases-release : goal.decreases-release
decreases-release l = length l.arguments.now
