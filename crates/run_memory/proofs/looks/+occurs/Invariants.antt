use Rattle.std.proofs.Common.{length}
use Rattle.run_memory.proofs.looks.+occurs.Given as goal

abbrev pub decreases-occurs : goal.decreases-occurs
decreases-occurs l = length l.objects.now
