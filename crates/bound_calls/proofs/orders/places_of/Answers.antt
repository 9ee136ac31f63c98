use Rattle.std.proofs.Common.{ℕ, List, ◌∷◌, [], ◌++◌, sym, ap, ◌∙◌}
use Rattle.bound_calls.specs.InOrder.{places_from}
use Rattle.bound_calls.proofs.InOrder.{places_push}
use Rattle.bound_calls.proofs.orders.places_of.Goals as goal

pub loop-number-preserved : goal.loop-number-preserved
loop-number-preserved c =
    let n = c.loop-number.number in
    let ks = c.args.numbers.now in
    c.in_ok-push.ensures.items ∙ ap (λ (l : List ℕ). l ++ c.in_ok-place.place ∷ []) c.loop-number.invariant
    ∙ ap (λ (m : ℕ). places_from 0 n ks ++ m ∷ []) c.in_ok-place.ensures ∙ sym (places_push n ks)
