use Rattle.static_rules.proofs.Steps.{nodes_next}
use Rattle.static_rules.proofs.scan.note_nodes.Goals as goal

pub loop-node-preserved : goal.loop-node-preserved
loop-node-preserved c =
    nodes_next c.args.selected c.args.nodes.now c.loop-node.node-index _ c.args.least.now c.loop-node.least c.note_node.new.least c.loop-node-test.true c.loop-node.invariant c.note_node.ensures
