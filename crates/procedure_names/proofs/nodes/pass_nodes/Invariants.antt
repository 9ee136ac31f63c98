use Rattle.std.proofs.Common.{◌≡◌, [], drop}
use Rattle.procedure_names.specs.Used.{behind_nodes, stack}
use Rattle.procedure_names.proofs.nodes.pass_nodes.Given as goal

abbrev pub invariant-loop-node : goal.invariant-loop-node
invariant-loop-node l = behind_nodes (stack l.items.items) (drop l.node-index l.nodes) ≡ behind_nodes [] l.nodes
