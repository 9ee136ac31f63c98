use Rattle.std.proofs.Common.{◌-◌, length}
use Rattle.run_memory.proofs.connecting.+renumber_from.Given as goal

abbrev pub decreases-renumber_from : goal.decreases-renumber_from
decreases-renumber_from l = length l.entries.now.items - l.from
