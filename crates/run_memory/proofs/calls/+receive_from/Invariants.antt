use Rattle.std.proofs.Common.{◌-◌, length}
use Rattle.run_memory.proofs.calls.+receive_from.Given as goal

abbrev pub decreases-receive_from : goal.decreases-receive_from
decreases-receive_from l = length l.arguments.now.items - l.from
