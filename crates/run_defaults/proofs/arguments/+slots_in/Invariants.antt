use Rattle.std.proofs.Common.{length, ◌+◌, ◌*◌}
use Rattle.run_defaults.proofs.arguments.+slots_in.Given as goal

abbrev pub decreases-slots_in : goal.decreases-slots_in
decreases-slots_in l = 3 * length l.parameters.now

abbrev pub decreases-slots_behind : goal.decreases-slots_behind
decreases-slots_behind l = 3 * length l.behind.now + 1

abbrev pub decreases-slots_with : goal.decreases-slots_with
decreases-slots_with l = 3 * length l.behind.now + 2
