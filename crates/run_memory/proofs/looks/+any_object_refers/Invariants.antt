use Rattle.std.proofs.Common.{length}
use Rattle.run_memory.proofs.looks.+any_object_refers.Given as goal

abbrev pub decreases-any_object_refers : goal.decreases-any_object_refers
decreases-any_object_refers l = length l.objects.now
