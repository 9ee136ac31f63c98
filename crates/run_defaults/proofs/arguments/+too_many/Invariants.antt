use Rattle.std.proofs.Common.{length, ◌+◌, ◌*◌}
use Rattle.run_defaults.proofs.arguments.+too_many.Given as goal

abbrev pub decreases-too_many : goal.decreases-too_many
decreases-too_many l = 2 * length l.parameters.now

abbrev pub decreases-too_many_behind : goal.decreases-too_many_behind
decreases-too_many_behind l = 2 * length l.behind.now + 1
