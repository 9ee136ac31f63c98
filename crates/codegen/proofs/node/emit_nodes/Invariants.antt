use Rattle.std.proofs.Common.{◌≡◌, ◌++◌, take}
use Rattle.codegen.specs.Emission.{lists_of, nodes_instrs}
use Rattle.codegen.proofs.node.emit_nodes.Given as goal

abbrev pub invariant-loop-node : goal.invariant-loop-node
invariant-loop-node l = l.code.items ≡ l.fn.code.items ++ nodes_instrs l.added (lists_of l.orders) l.around (take l.node-index l.nodes)
