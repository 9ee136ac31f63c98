use Rattle.std.proofs.Common.{Option, sym, ap, subst, ◌∙◌}
use Rattle.binder.specs.Scopes.{Qualifier, before_dot, declares, as_qualifier}
use Rattle.bound_names.specs.bound_members.specs.bound_calls.specs.bound_declarations.specs.constant_values.specs.Rounds.{IsPlace}
use Rattle.bound_names.specs.bound_members.specs.bound_calls.specs.bound_declarations.specs.constant_values.proofs.Looked.{declared_there, qualifier_place}
use Rattle.bound_names.specs.bound_members.specs.bound_calls.specs.bound_declarations.specs.constant_values.specs.declared_names.specs.View.{scope_view}
use Rattle.bound_accesses.proofs.members.name_qualifier.Goals as goal

pub returns-clause-place : goal.returns-clause-place
returns-clause-place c =
    let s = scope_view c.args.env.constants.scope in
    let x = c.args.name.now in
    let A : Option Qualifier → Type 0 = λ (o : Option Qualifier). IsPlace s o in
    subst A (sym (c.as_qualifier.ensures ∙ ap as_qualifier c.declares.ensures)) (qualifier_place s (declares before_dot s x) (declared_there before_dot s x c.requires.placed))

pub returns-clause-is : goal.returns-clause-is
returns-clause-is c = c.as_qualifier.ensures ∙ ap as_qualifier c.declares.ensures
