use Rattle.std.proofs.Common.{◌≡◌, ℕ, ◌+◌, subst}
use Rattle.std.specs.Prelude.{IfOk}
use Rattle.vba_tree.specs.View.{list_view}
use Rattle.binder.specs.Numbering.{count_list}
use Rattle.statement_numbers.proofs.Counted.{list_counted, next_counted}
use Rattle.statement_numbers.proofs.counts.+count.Goals as goal

pub count_list-returns : goal.count_list-returns
count_list-returns t c =
    let sum : c.in_ok-first.first + c.in_ok-count_others.field-0 ≡ count_list (list_view c.args.list.now) =
    list_counted c.args.list.now c.deref.result.now _ _ c.deref.ensures c.in_ok-first.ensures c.in_ok-count_others.ensures in
    subst (λ (m : ℕ). IfOk c.plus.result (λ n. n ≡ m)) sum c.plus.ensures

pub count_others-loop-next-preserved : goal.count_others-loop-next-preserved
count_others-loop-next-preserved t c =
    next_counted c.loop-next.counted c.in_ok-count_next.field-0 c.in_ok-counted.counted c.deref-next-items.result.now c.loop-next.next-index c.next-item.result
    c.loop-next-test.true c.next-item.is c.loop-next.invariant c.in_ok-count_next.ensures c.in_ok-counted.ensures
