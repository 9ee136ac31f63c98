use Rattle.std.proofs.Common.{◌≡◌, length}
use Rattle.declared_names.specs.View.{scope_view}
use Rattle.constant_values.specs.Stack.{behind_outcomes}
use Rattle.constant_values.specs.View.{names_view, outcomes}
use Rattle.constant_values.proofs.evaluate.pass_nodes.Given as goal

abbrev pub invariant-loop-left : goal.invariant-loop-left
invariant-loop-left l =
    behind_outcomes (names_view l.names) (scope_view l.scope) (outcomes (names_view l.names) (scope_view l.scope) l.stack.items) l.left
    ≡ behind_outcomes (names_view l.names) (scope_view l.scope) (outcomes (names_view l.names) (scope_view l.scope) l.fn.stack.items) l.nodes

abbrev pub decreases-loop-left : goal.decreases-loop-left
decreases-loop-left l = length l.left
