use Rattle.std.proofs.Common.{length}
use Rattle.run_memory.proofs.looks.+any_caller_refers.Given as goal

abbrev pub decreases-any_caller_refers : goal.decreases-any_caller_refers
decreases-any_caller_refers l = length l.callers.now
