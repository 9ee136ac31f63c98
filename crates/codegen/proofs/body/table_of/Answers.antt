use Rattle.std.proofs.Common.{◌+◌, List, ap, ◌∙◌}
use Rattle.std.proofs.lemmas.List.{map_push}
use Rattle.bound_project.specs.declared.node.Node.{Node}
use Rattle.bound_project.specs.declared.statement.StatementNode.{StatementNode}
use Rattle.codegen.specs.Emission.{lists_of, body_size, row_of}
use Rattle.codegen.proofs.Loops.{tabled_next}
use Rattle.codegen.proofs.body.table_of.Goals as goal

pub loop-body-preserved : goal.loop-body-preserved
loop-body-preserved c =
    let added = c.args.added in
    let orders = lists_of c.args.orders.now in
    let at = c.loop-body.at in
    let b = c.body-item.result in
    let row = c.in_ok-row.ensures.row ∙ ap (λ (ns : List Node). row_of added orders at ns c.deref-in-loop-body.result.now) c.deref.ensures.value
    ∙ ap (λ (ss : List StatementNode). row_of added orders at b.nodes.items ss) c.deref-in-loop-body.ensures.value in
    let behind = c.in_ok-row.ensures.at ∙ ap (λ (ns : List Node). at + body_size added orders ns c.deref-in-loop-body.result.now) c.deref.ensures.value
    ∙ ap (λ (ss : List StatementNode). at + body_size added orders b.nodes.items ss) c.deref-in-loop-body.ensures.value in
    let more = ap lists_of c.in_ok-push.ensures.items ∙ map_push _ c.loop-body.table.items c.in_ok-row.row in
    tabled_next added orders c.args.bodies.now c.loop-body.body-index b (lists_of c.loop-body.table.items) _ c.in_ok-row.row.items at c.row_of.new.at
    c.loop-body-test.true c.body-item.is c.loop-body.invariant more row behind
