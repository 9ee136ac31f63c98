use Rattle.std.proofs.Common.{◌≡◌, length}
use Rattle.bound_calls.specs.bound_forms.specs.StatementsBound.{for_each_header}
use Rattle.statement_numbers.specs.View.{stack_view}
use Rattle.statement_nodes.proofs.innermost.each_header.Given as goal

abbrev pub invariant-looking : goal.invariant-looking
invariant-looking l = for_each_header (stack_view l.standing.body.now l.left) ≡ for_each_header (stack_view l.standing.body.now l.standing.around.now)

abbrev pub decreases-looking : goal.decreases-looking
decreases-looking l = length l.left
