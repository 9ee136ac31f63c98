use Rattle.std.proofs.Common.{vec_len}
use Rattle.vba_statements.specs.Calls.{place_calls}
use Rattle.vba_statements.proofs.Places.{Calls}
use Rattle.vba_statements.proofs.call.read_longest_call.Given as goal

abbrev pub invariant-targets : goal.invariant-targets
invariant-targets l = Calls l.tokens (place_calls l.tokens) l.end l.behind l.parts.items

abbrev pub decreases-targets : goal.decreases-targets
decreases-targets l = vec_len l.parts
