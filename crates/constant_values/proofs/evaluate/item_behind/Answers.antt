use Rattle.std.proofs.Common.{◌≡◌, ◌∙◌, ap, refl}
use Rattle.std.specs.Prelude.{option_map}
use Rattle.declared_names.specs.View.{qualifier_view, scope_view}
use Rattle.constant_values.specs.Stack.{Outcome, last}
use Rattle.constant_values.specs.View.{names_view, outcomes}
use Rattle.constant_values.proofs.evaluate.item_behind.Goals as goal

pub returns-in-Member : goal.returns-in-Member
returns-in-Member c =
    let known = names_view c.args.names in
    let s = scope_view c.args.scope in
    let q : option_map qualifier_view c.qualifier_of_item-qualifier.result ≡ (last (outcomes known s c.args.stack.now.items)).qualifier =
    c.qualifier_of_item-qualifier.ensures known ∙ ap (λ (o : Outcome). o.qualifier) (c.pop-base.ensures.item known s) in
    rw (c.in-Member.is, q, c.pop-base.ensures.stack known s) refl
