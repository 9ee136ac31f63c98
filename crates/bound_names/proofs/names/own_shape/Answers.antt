use Rattle.std.proofs.Common.{option_map, sym, subst, ap, ◌∙◌}
use Rattle.vba_tree.specs.View.{parameter_view, type_clause_view, variable_view}
use Rattle.bound_project.specs.View.{declared_view}
use Rattle.bound_members.specs.bound_calls.specs.bound_declarations.specs.constant_values.specs.declared_names.specs.binder.specs.Declarations.{a_local, a_parameter}
use Rattle.bound_members.specs.bound_calls.specs.bound_declarations.specs.constant_values.specs.declared_names.specs.declared.local.Own.{Own}
use Rattle.bound_members.specs.bound_calls.specs.bound_declarations.specs.constant_values.specs.declared_names.specs.View.{scope_view, own_view, written_view}
use Rattle.bound_names.specs.Owned.{OwnShaped, making_of, making_through}
use Rattle.bound_names.proofs.NamedTerms.{own_result, own_parameter, own_variable, own_array, own_undeclared}
use Rattle.bound_names.proofs.names.own_shape.Goals as goal
use Rattle.bound_names.specs.declared.names.Making.{Making}
use Rattle.bound_names.specs.declared.names.Making.TheVariants as making

pub returns-in_ok-shape-in-Result : goal.returns-in_ok-shape-in-Result
returns-in_ok-shape-in-Result c =
    let s = scope_view c.args.env.constants.scope in
    let n = c.args.local.name.now in
    let x = c.in_ok-shape-in-Result.shape in
    let P : Own → Type 0 = λ (o : Own). OwnShaped s (record { name = n; own = own_view o }) (declared_view x.of) x.bounds making.Never in
    subst P (sym c.in-Result.is) (own_result s n (written_view c.in-Result.written) x c.in_ok-shape-in-Result.ensures)

pub returns-in_ok-shape-in-Parameter : goal.returns-in_ok-shape-in-Parameter
returns-in_ok-shape-in-Parameter c =
    let s = scope_view c.args.env.constants.scope in
    let n = c.args.local.name.now in
    let p = parameter_view c.in-Parameter.parameter.now in
    let x = c.in_ok-shape-in-Parameter.shape in
    let P : Own → Type 0 = λ (o : Own). OwnShaped s (record { name = n; own = own_view o }) (declared_view x.of) x.bounds c.making_through.result in
    subst P (sym c.in-Parameter.is)
    (subst (λ (m : Making). OwnShaped s (record { name = n; own = a_parameter p }) (declared_view x.of) x.bounds m) (sym (c.making_through.ensures ∙ ap making_through c.made_through-through.ensures)) (own_parameter s n p c.args.env.has_new x (sym c.args.env.has_new_is) c.in_ok-shape-in-Parameter.ensures))

pub returns-in_ok-shape-in-Variable : goal.returns-in_ok-shape-in-Variable
returns-in_ok-shape-in-Variable c =
    let s = scope_view c.args.env.constants.scope in
    let n = c.args.local.name.now in
    let v = variable_view c.in-Variable.variable.now in
    let x = c.in_ok-shape-in-Variable.shape in
    let P : Own → Type 0 = λ (o : Own). OwnShaped s (record { name = n; own = own_view o }) (declared_view x.of) x.bounds c.making_of.result in
    subst P (sym c.in-Variable.is)
    (subst (λ (m : Making). OwnShaped s (record { name = n; own = a_local v c.in-Variable.is_static }) (declared_view x.of) x.bounds m) (sym (c.making_of.ensures ∙ ap making_of c.made_by-made.ensures)) (own_variable s n v c.in-Variable.is_static x c.in_ok-shape-in-Variable.ensures))

pub returns-in_ok-shape-in-Array : goal.returns-in_ok-shape-in-Array
returns-in_ok-shape-in-Array c =
    let s = scope_view c.args.env.constants.scope in
    let n = c.args.local.name.now in
    let x = c.in_ok-shape-in-Array.shape in
    let P : Own → Type 0 = λ (o : Own). OwnShaped s (record { name = n; own = own_view o }) (declared_view x.of) x.bounds making.Never in
    subst P (sym c.in-Array.is) (own_array s n (option_map type_clause_view c.in-Array.type_clause.now) c.in-Array.is_static x c.in_ok-shape-in-Array.ensures)

pub returns-in-Undeclared : goal.returns-in-Undeclared
returns-in-Undeclared c =
    let s = scope_view c.args.env.constants.scope in
    let n = c.args.local.name.now in
    let x = c.unbounded-shape.result in
    let P : Own → Type 0 = λ (o : Own). OwnShaped s (record { name = n; own = own_view o }) (declared_view x.of) x.bounds making.Never in
    subst P (sym c.in-Undeclared.is) (own_undeclared s n c.in-Undeclared.is_static x c.unbounded-shape.ensures)
