use Rattle.vba_tree.proofs.Tokens.{next_step, list_pushed}
use Rattle.vba_tree.proofs.statement_tokens.+statement_tokens.Goals as goal

pub push_others-loop-next-preserved : goal.push_others-loop-next-preserved
push_others-loop-next-preserved t c =
    next_step c.args.tokens.now.items c.loop-next.tokens.items c.push_next.new.tokens.items c.deref-next-items.result.now
    c.loop-next.next-index c.next-item.result c.loop-next-test.true c.next-item.is c.loop-next.invariant c.in_ok-push_next.ensures

pub push_statement_list-returns : goal.push_statement_list-returns
push_statement_list-returns t c = list_pushed _ _ _ _ _ _ c.deref.ensures c.in_ok-push_statement.ensures c.push_others.ensures
