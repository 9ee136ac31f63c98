use Rattle.std.proofs.Common.{◌≡◌, [], drop}
use Rattle.declared_names.specs.View.{scope_view}
use Rattle.use_rules.specs.TypesFound.{types_through}
use Rattle.use_rules.specs.View.{types_stack}
use Rattle.use_rules.proofs.types_walk.pass_nodes.Given as goal

abbrev pub invariant-loop-passed : goal.invariant-loop-passed
invariant-loop-passed l =
    types_through (scope_view l.scope) (types_stack l.stack.items) (drop l.passed-index l.nodes) ≡ types_through (scope_view l.scope) [] l.nodes
