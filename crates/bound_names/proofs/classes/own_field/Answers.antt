use Rattle.std.proofs.Common.{ℕ, sym, ap, ◌∙◌}
use Rattle.vba_tree.specs.View.{variable_view}
use Rattle.bound_project.specs.Expressions.{own}
use Rattle.bound_project.specs.View.{declared_view}
use Rattle.bound_members.specs.bound_calls.specs.bound_declarations.specs.constant_values.specs.declared_names.specs.binder.specs.Classes.{field_number}
use Rattle.bound_members.specs.bound_calls.specs.bound_declarations.specs.constant_values.specs.declared_names.specs.binder.specs.Constants.{home}
use Rattle.bound_members.specs.bound_calls.specs.bound_forms.specs.ExpressionsBound.{variable_term}
use Rattle.bound_members.specs.bound_calls.specs.bound_declarations.specs.constant_values.specs.declared_names.specs.View.{scope_view, space_view}
use Rattle.bound_names.specs.declared.names.Making.{Making}
use Rattle.bound_names.specs.Owned.{made_term, making_of}
use Rattle.bound_names.specs.View.{env_view}
use Rattle.bound_names.proofs.NamedTerms.{declared_kept, leaf_as}
use Rattle.bound_names.proofs.classes.own_field.Goals as goal

pub returns : goal.returns
returns c =
    let env = env_view c.args.env in
    let s = scope_view c.args.env.constants.scope in
    let space = space_view c.args.space.now in
    let v = variable_view c.args.variable.now in
    let x = c.in_ok-field.shape in
    let i = c.in_ok-field.field in
    let making : Making = c.making_of.result in
    λ d. leaf_as env d d c.variable_term.result (made_term making (own i) (declared_view x.of) x.bounds) (variable_term (home s space) (own (field_number space c.args.number)) v)
    (ap (λ (m : Making). made_term m (own i) (declared_view x.of) x.bounds) (c.making_of.ensures ∙ ap making_of c.made_by-made.ensures)
    ∙ sym (declared_kept (home s space) v (own i) x c.in_ok-field.ensures.shape) ∙ ap (λ (n : ℕ). variable_term (home s space) (own n) v) c.in_ok-field.ensures.number) (c.variable_term.ensures env d)
