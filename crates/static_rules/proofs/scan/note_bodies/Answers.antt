use Rattle.std.proofs.Common.{List, ap, ◌∙◌}
use Rattle.bound_project.specs.declared.node.Node.{Node}
use Rattle.bound_project.specs.declared.statement.StatementNode.{StatementNode}
use Rattle.static_rules.specs.Broken.{least_of}
use Rattle.static_rules.specs.Scan.{statements_places}
use Rattle.static_rules.proofs.Steps.{bodies_next}
use Rattle.static_rules.proofs.scan.note_bodies.Goals as goal

pub loop-body-preserved : goal.loop-body-preserved
loop-body-preserved c =
    let now = c.loop-body.least in
    let b = c.body-item.result in
    let nodes = ap (λ (ns : List Node). least_of now (statements_places ns c.deref-in-loop-body.result.now)) c.deref.ensures.value in
    let statements = ap (λ (ss : List StatementNode). least_of now (statements_places b.nodes.items ss)) c.deref-in-loop-body.ensures.value in
    bodies_next c.args.bodies.now c.loop-body.body-index b c.args.least.now now c.note_statements.new.least c.loop-body-test.true c.body-item.is c.loop-body.invariant
    (c.note_statements.ensures ∙ nodes ∙ statements)
