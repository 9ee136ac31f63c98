use Rattle.std.proofs.Common.{◌≡◌, ℕ, List, ◌∷◌, ◌++◌, length, take, drop, sym, ap, ◌∙◌, arith}
use Rattle.vba_events.specs.declared.linked.Linked.{Linked}
use Rattle.run_events.specs.Sought.{place_among}
use Rattle.run_events.proofs.Ordered.{inserted_at, place_within}
use Rattle.run_events.proofs.links.insert_link.Goals as goal

pub insert-requires : goal.insert-requires
insert-requires c =
    let long : length c.as_slice.result.now ≡ length c.args.links.now.items = ap (λ (l : List Linked). length l) c.as_slice.ensures.value in
    omega (arith, c.place_of-place.ensures, place_within c.args.link.number c.as_slice.result.now, long, c.args.links.now.ok.0)

pub returns : goal.returns
returns c =
    let x = c.args.link in
    let xs = c.args.links.now.items in
    let same : c.place_of-place.result ≡ place_among x.number xs = c.place_of-place.ensures ∙ ap (λ (l : List Linked). place_among x.number l) c.as_slice.ensures.value in
    c.in_ok-insert.ensures.items ∙ ap (λ (k : ℕ). take k xs ++ x ∷ drop k xs) same ∙ sym (inserted_at x xs)
