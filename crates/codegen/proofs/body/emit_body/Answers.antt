use Rattle.std.proofs.Common.{◌≡◌, arith}
use Rattle.codegen.specs.Emission.{lists_of}
use Rattle.codegen.proofs.Loops.{body_next}
use Rattle.codegen.proofs.body.emit_body.Goals as goal

pub loop-i-preserved : goal.loop-i-preserved
loop-i-preserved c =
    let at : c.in-Ok.number ≡ c.loop-i.i = omega (arith, c.in-Ok.ensures) in
    body_next c.args.added (lists_of c.args.orders.now) c.args.row.now c.args.procedure c.args.nodes.now c.args.statements.now c.loop-i.i c.in-Ok.number _ c.args.code.now.items c.loop-i.code.items
    c.emit_statement.new.code.items c.loop-i-test.true at c.loop-i.invariant c.in_ok-emit_statement.ensures
