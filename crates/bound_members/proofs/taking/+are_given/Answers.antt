use Rattle.std.proofs.Common.{List, ℕ, map, sym, ap, ◌∙◌}
use Rattle.vba_meaning.specs.ByName.{parameter_named}
use Rattle.bound_members.proofs.NamesTaken.{one_more_shape}
use Rattle.bound_members.proofs.taking.+are_given.Goals as goal

pub returns-else-not-are_given : goal.returns-else-not-are_given
returns-else-not-are_given t c =
    let xs : List (List ℕ) = map (λ w. w.now) c.args.parameters.now in
    one_more_shape xs c.args.before c.in-Some-parameter_named.number c.args.shapes.now c.shape-item.result c.in-Some.name c.is_given.result c.in-len1-up.len_at_least c.shape-item.is c.in-Some.is c.if-number-before.false
    (c.in-Some-parameter_named.ensures ∙ ap (λ (n : List ℕ). parameter_named 0 xs n) c.units.ensures) (sym c.are_given.ensures ∙ c.if-not-are_given.false) c.is_given.ensures
