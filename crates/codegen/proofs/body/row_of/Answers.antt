use Rattle.std.proofs.Common.{ℕ, ◌+◌, ap, ◌∙◌}
use Rattle.codegen.specs.Emission.{lists_of}
use Rattle.codegen.proofs.Loops.{placed_next}
use Rattle.codegen.proofs.body.row_of.Goals as goal

pub loop-statement-preserved : goal.loop-statement-preserved
loop-statement-preserved c =
    let at = c.loop-statement.at in
    placed_next c.args.added (lists_of c.args.orders.now) c.args.at.now c.args.nodes.now c.args.statements.now c.loop-statement.statement-index _ c.loop-statement.row.items c.push.new.self.items at c.in_ok-at.field-0
    c.loop-statement-test.true c.loop-statement.invariant c.in_ok-push.ensures.items (c.in_ok-at.ensures ∙ ap (λ (n : ℕ). at + n) c.in_ok-size.ensures)
