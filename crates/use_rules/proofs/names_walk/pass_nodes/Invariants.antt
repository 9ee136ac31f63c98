use Rattle.std.proofs.Common.{◌≡◌, [], drop}
use Rattle.declared_names.specs.View.{scope_view}
use Rattle.use_rules.specs.NamesFound.{names_through}
use Rattle.use_rules.specs.View.{names_stack}
use Rattle.use_rules.proofs.names_walk.pass_nodes.Given as goal

abbrev pub invariant-loop-passed : goal.invariant-loop-passed
invariant-loop-passed l =
    names_through (scope_view l.scope) l.question (names_stack l.stack.items) (drop l.passed-index l.nodes) ≡ names_through (scope_view l.scope) l.question [] l.nodes
