use Rattle.std.proofs.Common.{◌-◌, ◌≤◌, length, take, drop, map, arith, ap, sym, ◌∙◌}
use Rattle.pcode.specs.WellFormed.{kinds_pushed, kinds_reordered}
use Rattle.code_check.specs.View.{kind_view, kinds_view}
use Rattle.code_check.proofs.Takings.{took_none, took_some}
use Rattle.code_check.proofs.operands.Operands.reorder.Goals as goal

pub returns-then-len-count : goal.returns-then-len-count
returns-then-len-count c = λ go.
    let e = c.len.ensures ∙ c.args.self.now.kinds.ok.0 in
    took_none c.args.count c.args.self.now.kinds.items (λ xs js. go (kinds_pushed (kinds_reordered c.args.order.now xs) js)) (omega arith)

pub returns : goal.returns
returns c = λ go.
    let e = c.len-2.ensures ∙ c.args.self.now.kinds.ok.0 in
    let f = c.len.ensures ∙ c.args.self.now.kinds.ok.0 in
    let le : c.args.count ≤ length c.args.self.now.kinds.items = omega arith in
    let all = c.args.self.now.kinds.items in
    took_some c.args.count all (λ xs js. go (kinds_pushed (kinds_reordered c.args.order.now xs) js)) le
    ∙ ap (λ n. go (kinds_pushed (kinds_reordered c.args.order.now (map kind_view (drop (n - c.args.count) all))) (kinds_view (take (n - c.args.count) all)))) (sym e)
    ∙ ap (λ xs. go (kinds_pushed (kinds_reordered c.args.order.now (map kind_view xs)) (kinds_view (take (c.len-2.result - c.args.count) all)))) (sym c.in_ok-taken.ensures.tail ∙ sym c.deref.ensures.value)
    ∙ ap (λ xs. go (kinds_pushed (kinds_reordered c.args.order.now (map kind_view c.deref.result.now)) (kinds_view xs))) (sym c.in_ok-taken.ensures.items)
    ∙ ap go (sym c.in_ok-put_in_order.ensures)
