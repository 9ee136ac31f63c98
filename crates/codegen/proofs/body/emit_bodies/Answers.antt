use Rattle.std.proofs.Common.{◌≡◌, ℕ, List, ◌++◌, arith, ap, ◌∙◌}
use Rattle.bound_project.specs.declared.node.Node.{Node}
use Rattle.bound_project.specs.declared.statement.StatementNode.{StatementNode}
use Rattle.codegen.specs.Emission.{lists_of, row_in, body_instrs}
use Rattle.codegen.proofs.Loops.{bodies_next}
use Rattle.codegen.proofs.body.emit_bodies.Goals as goal

pub loop-i-preserved : goal.loop-i-preserved
loop-i-preserved c =
    let added = c.args.added in
    let orders = lists_of c.args.orders.now in
    let now = c.loop-i.code.items in
    let b = c.index-bodies-i.result in
    let at : c.in-Ok.procedure ≡ c.loop-i.i = omega (arith, c.in-Ok.ensures) in
    let row = ap (λ (r : List ℕ). now ++ body_instrs added orders r c.in-Ok.procedure c.deref.result.now 0 c.deref-in-loop-i.result.now) c.row_in-row.ensures in
    let row_is = row_in (lists_of c.args.table.now) c.loop-i.i in
    let procedure = ap (λ (p : ℕ). now ++ body_instrs added orders row_is p c.deref.result.now 0 c.deref-in-loop-i.result.now) at in
    let nodes = ap (λ (ns : List Node). now ++ body_instrs added orders row_is c.loop-i.i ns 0 c.deref-in-loop-i.result.now) c.deref.ensures.value in
    let statements = ap (λ (ss : List StatementNode). now ++ body_instrs added orders row_is c.loop-i.i b.nodes.items 0 ss) c.deref-in-loop-i.ensures.value in
    bodies_next added orders (lists_of c.args.table.now) c.args.bodies.now c.loop-i.i b c.args.code.now.items now c.emit_body.new.code.items
    c.loop-i-test.true c.index-bodies-i.is c.loop-i.invariant (c.in_ok-emit_body.ensures ∙ row ∙ procedure ∙ nodes ∙ statements)
