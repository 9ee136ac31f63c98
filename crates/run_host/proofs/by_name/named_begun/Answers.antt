use Rattle.std.proofs.Common.{◌≡◌, ℕ, Bool, List, map, sym, ap, subst, ◌∙◌}
use Rattle.vba_values.specs.Val.{Val}
use Rattle.vba_values.specs.View.{view}
use Rattle.vba_meaning.specs.ByName.{any_given, named_begun}
use Rattle.vba_meaning.specs.Effects.{Effect, on_fine}
use Rattle.run_memory.specs.Acts.{Acts}
use Rattle.run_host.specs.ByName.{by_name_view, first_by}
use Rattle.run_host.proofs.Named.{fit}
use Rattle.run_host.proofs.by_name.named_begun.Goals as goal

pub returns : goal.returns
returns c = λ m.
    let xs : List (List ℕ) = map (λ w. w.now) c.args.parameters.now in
    let by = by_name_view c.args.names in
    let takes = c.args.takes.now in
    let begun : named_begun xs takes by c.args.given m ≡ first_by by.before c.is_given.result m =
    fit xs takes by c.args.given m (sym c.are_given.ensures ∙ c.if-not-are_given.false)
    ∙ ap (λ d. on_fine d (λ u m1. first_by by.before (any_given xs 0 by.names) m1)) (c.in_ok-fits_in.ensures m)
    ∙ ap (λ (b : Bool). first_by by.before b m) (sym c.is_given.ensures) in
    let A : Effect Val → Type 0 = λ (e : Effect Val). Acts view c.first_given.result m e in
    subst A (sym begun) (c.first_given.ensures m)
