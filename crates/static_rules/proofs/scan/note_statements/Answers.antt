use Rattle.static_rules.proofs.Steps.{statements_next}
use Rattle.static_rules.proofs.scan.note_statements.Goals as goal

pub loop-statement-preserved : goal.loop-statement-preserved
loop-statement-preserved c =
    statements_next c.args.nodes.now c.args.statements.now c.loop-statement.statement-index _ c.args.least.now c.loop-statement.least c.note_statement.new.least
    c.loop-statement-test.true c.loop-statement.invariant c.note_statement.ensures
