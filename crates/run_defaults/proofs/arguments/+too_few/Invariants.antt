use Rattle.std.proofs.Common.{length, ◌+◌, ◌*◌}
use Rattle.run_defaults.proofs.arguments.+too_few.Given as goal

abbrev pub decreases-too_few : goal.decreases-too_few
decreases-too_few l = 2 * length l.parameters.now

abbrev pub decreases-too_few_behind : goal.decreases-too_few_behind
decreases-too_few_behind l = 2 * length l.behind.now + 1
