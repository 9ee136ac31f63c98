use Rattle.codegen.specs.Emission.{lists_of}
use Rattle.codegen.proofs.Loops.{nodes_next}
use Rattle.codegen.proofs.node.emit_nodes.Goals as goal

pub loop-node-preserved : goal.loop-node-preserved
loop-node-preserved c =
    nodes_next c.args.added (lists_of c.args.orders.now) c.args.around c.args.nodes.now c.loop-node.node-index _ c.args.code.now.items c.loop-node.code.items c.emit_node.new.code.items
    c.loop-node-test.true c.loop-node.invariant c.in_ok-emit_node.ensures
