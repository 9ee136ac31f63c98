use Rattle.std.proofs.Common.{ℕ, List, subst}
use Rattle.std.specs.Prelude.{reverse}
use Rattle.bound_project.specs.DraftView.{draft_view}
use Rattle.bound_calls.specs.InOrder.{Orders}
use Rattle.bound_calls.proofs.NamedSteps.{ends_in_order}
use Rattle.bound_calls.proofs.orders.push_in_order.Goals as goal

pub returns : goal.returns
returns c =
    let m = draft_view c.pass_apart.new.draft in
    let e = draft_view c.ordered.new.draft in
    let A : List ℕ → Type 0 = λ l. Orders c.args.parameters.now l m e c.in_ok-ordered.ordered in
    ends_in_order c.args.parameters.now c.args.passed (reverse c.args.named.items) c.in_ok-numbers.numbers.items c.in_ok-numbers-2.numbers.items (draft_view c.args.draft.now) m e c.in_ok-ordered.ordered c.in_ok-numbers.ensures
    c.in_ok-numbers-2.ensures (subst A c.deref.ensures.value c.in_ok-ordered.ensures)
