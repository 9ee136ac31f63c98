use Rattle.std.proofs.Common.{refl, sym, ap, ◌∙◌}
use Rattle.bound_project.specs.View.{declared_view, storage_view}
use Rattle.bound_members.specs.bound_calls.specs.bound_forms.specs.ExpressionsBound.{own_term}
use Rattle.bound_members.specs.bound_calls.specs.bound_declarations.specs.constant_values.specs.declared_names.specs.View.{local_view}
use Rattle.bound_names.specs.View.{env_view}
use Rattle.bound_names.proofs.NamedTerms.{leaf_as}
use Rattle.bound_names.proofs.names.own_variable.Goals as goal
use Rattle.bound_names.specs.Owned.{made_term}

pub returns : goal.returns
returns c =
    let env = env_view c.args.env in
    let l = local_view c.args.local in
    let x = c.in_ok-shape.shape in
    let making = c.in_ok-shape.making in
    λ d y. leaf_as env d d c.variable_term.result (made_term making (storage_view c.in_ok-storage.storage) (declared_view x.of) x.bounds) (own_term env y c.args.number l)
    (ap (λ kept. made_term making kept (declared_view x.of) x.bounds) c.in_ok-storage.ensures ∙ sym (c.in_ok-shape.ensures env y c.args.number refl)) (c.variable_term.ensures env d)
