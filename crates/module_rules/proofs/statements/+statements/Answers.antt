use Rattle.module_rules.proofs.Faults.{else_noted, list_noted, next_noted}
use Rattle.module_rules.proofs.statements.+statements.Goals as goal

pub note_list-returns : goal.note_list-returns
note_list-returns t c = list_noted c.args.check _ _ _ _ _ c.deref.ensures c.note_statement.ensures c.note_others.ensures

pub note_others-loop-next-preserved : goal.note_others-loop-next-preserved
note_others-loop-next-preserved t c =
    next_noted c.args.check c.args.least.now c.loop-next.least c.note_next.new.least c.deref-next-items.result.now
    c.loop-next.next-index c.next-item.result c.loop-next-test.true c.next-item.is c.loop-next.invariant c.note_next.ensures

pub note_statement-returns-in-SingleLineIfElse : goal.note_statement-returns-in-SingleLineIfElse
note_statement-returns-in-SingleLineIfElse t c =
    let w = c.in-SingleLineIfElse in
    rw w.is
    (else_noted c.args.check c.args.least.now c.note_list-in-SingleLineIfElse.new.least c.note_list-in-SingleLineIfElse-2.new.least
    w.if_word w.then_word w.else_word w.condition w.then_list w.else_list
    c.note_list-in-SingleLineIfElse.ensures c.note_list-in-SingleLineIfElse-2.ensures)
