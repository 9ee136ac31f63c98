use Rattle.statement_terms.proofs.Heights.{height_ends, height_goes_on, one_or_none}
use Rattle.statement_terms.proofs.trees.adds_one.Goals as goal

pub loop-node-preserved : goal.loop-node-preserved
loop-node-preserved c =
    height_goes_on c.args.nodes.now c.loop-node.node-index c.loop-node.height c.in-Some.more c.node-item.result c.loop-node-test.true c.node-item.is c.in-Some.ensures c.loop-node.invariant

pub returns : goal.returns
returns c =
    let l = c.loop-node in
    one_or_none c.args.nodes.now l.height (height_ends c.args.nodes.now l.node-index l.height c.loop-node-test.false l.invariant)
