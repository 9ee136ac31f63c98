use Rattle.std.proofs.Common.{Option, sym, ap, subst, ◌∙◌}
use Rattle.std.specs.Prelude.{option_map}
use Rattle.binder.specs.Scopes.{Qualifier, enum_behind}
use Rattle.bound_names.specs.bound_members.specs.bound_calls.specs.bound_declarations.specs.constant_values.specs.Rounds.{IsPlace}
use Rattle.bound_names.specs.bound_members.specs.bound_calls.specs.bound_declarations.specs.constant_values.proofs.Looked.{enum_behind_place}
use Rattle.bound_names.specs.bound_members.specs.bound_calls.specs.bound_declarations.specs.constant_values.specs.declared_names.specs.View.{qualifier_view, scope_view}
use Rattle.bound_accesses.proofs.members.dotted_qualifier.Goals as goal

pub returns-clause-place : goal.returns-clause-place
returns-clause-place c =
    let s = scope_view c.args.env.constants.scope in
    let A : Option Qualifier → Type 0 = λ (o : Option Qualifier). IsPlace s o in
    subst A (sym c.enum_behind.ensures) (enum_behind_place s (option_map qualifier_view c.name_qualifier-first.result) c.args.dotted.name.now c.name_qualifier-first.ensures.place)

pub returns-clause-is : goal.returns-clause-is
returns-clause-is c =
    let s = scope_view c.args.env.constants.scope in c.enum_behind.ensures ∙ ap (λ (q : Option Qualifier). enum_behind s q c.args.dotted.name.now) c.name_qualifier-first.ensures.is
