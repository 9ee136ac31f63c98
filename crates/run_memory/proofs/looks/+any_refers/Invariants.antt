use Rattle.std.proofs.Common.{length}
use Rattle.run_memory.proofs.looks.+any_refers.Given as goal

abbrev pub decreases-any_refers : goal.decreases-any_refers
decreases-any_refers l = length l.values.now
