use Rattle.std.proofs.Common.{ℕ, List, sym, ap, ◌∙◌}
use Rattle.std.specs.Prelude.{reverse}
use Rattle.bound_calls.specs.declared.term.Item.{Item}
use Rattle.bound_calls.specs.InOrder.{with_named, with_number}
use Rattle.bound_calls.proofs.NamedSteps.{named_more}
use Rattle.bound_calls.proofs.orders.take_numbers.Goals as goal

pub loop-numbers-preserved : goal.loop-numbers-preserved
loop-numbers-preserved c =
    let ks = c.loop-numbers.numbers.items in
    let xs = reverse c.take_number.new.stack.items in
    c.loop-numbers.invariant ∙ ap (λ (l : List Item). with_named ks l) (c.in_ok-number.ensures ∙ ap (λ o. with_number o xs) c.in-Some.is) ∙ sym (named_more ks c.in-Some.number xs)
    ∙ ap (λ (l : List ℕ). with_named l xs) (sym c.in_ok-push.ensures.items)
