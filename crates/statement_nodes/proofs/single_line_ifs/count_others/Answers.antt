use Rattle.statement_numbers.proofs.Counted.{next_counted}
use Rattle.statement_nodes.proofs.single_line_ifs.count_others.Goals as goal

pub loop-next-preserved : goal.loop-next-preserved
loop-next-preserved c =
    next_counted c.loop-next.counted c.in_ok-count_next.field-0 c.in_ok-counted.counted c.deref-next-items.result.now c.loop-next.next-index c.next-item.result
    c.loop-next-test.true c.next-item.is c.loop-next.invariant c.in_ok-count_next.ensures c.in_ok-counted.ensures
