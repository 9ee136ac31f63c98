use Rattle.std.proofs.Common.{◌≡◌, ◌+◌, ◌≤◌, ◌++◌, length}
use Rattle.vba_statements.specs.Calls.{starts}
use Rattle.vba_statements.proofs.call.starts_of.Given as goal

abbrev pub invariant-tokens : goal.invariant-tokens
invariant-tokens l = (l.found.items ++ starts l.depth l.left ≡ starts 0 l.fn.tokens) × (l.depth + length l.left ≤ length l.fn.tokens)

abbrev pub decreases-tokens : goal.decreases-tokens
decreases-tokens l = length l.left
