use Rattle.std.proofs.Common.{length}
use Rattle.run_memory.proofs.looks.+any_kept_refers.Given as goal

abbrev pub decreases-any_kept_refers : goal.decreases-any_kept_refers
decreases-any_kept_refers l = length l.keeps.now
