use Rattle.std.proofs.Common.{Some, false, sym, subst, ◌∙◌}
use Rattle.bound_terms.specs.bound_accesses.specs.bound_names.specs.View.{env_view}
use Rattle.bound_terms.specs.bound_accesses.specs.bound_names.specs.bound_members.specs.bound_calls.specs.declared.term.Term.{Term}
use Rattle.bound_terms.specs.bound_accesses.specs.bound_names.specs.bound_members.specs.bound_calls.specs.declared.term.Term.TheVariants as term
use Rattle.bound_actions.specs.NoTargets.{IsProperty}
use Rattle.bound_actions.proofs.NoTargets.{other_property, property_typed, routine_property, routine_typed, typed_at}
use Rattle.bound_actions.proofs.setting.property_type.Goals as goal

pub returns-then-is_property : goal.returns-then-is_property
returns-then-is_property c =
    typed_at (env_view c.args.env) c.args.term (term.Routine c.in-Routine.routine) (Some (c.in-Routine.routine.receiver, c.in-Routine.routine.of)) c.in-Routine.is (routine_typed (env_view c.args.env) c.in-Routine.routine (sym c.is_property.ensures ∙ c.if-is_property.true))

pub returns-else-is_property : goal.returns-else-is_property
returns-else-is_property c =
    let P : Term → Type 0 = λ (x : Term). IsProperty x false in
    subst P (sym c.in-Routine.is) (routine_property c.in-Routine.routine false (sym c.if-is_property.false ∙ c.is_property.ensures))

pub returns-in_ok-of-in-Property : goal.returns-in_ok-of-in-Property
returns-in_ok-of-in-Property c = typed_at (env_view c.args.env) c.args.term (term.Property c.in-Property.property) (Some (c.in-Property.property.receiver, c.in_ok-of-in-Property.of)) c.in-Property.is (property_typed (env_view c.args.env) c.in-Property.property c.in_ok-of-in-Property.of c.in_ok-of-in-Property.ensures)

pub returns-in_default : goal.returns-in_default
returns-in_default c = other_property c.args.term c.in_default.not-Routine c.in_default.not-Property
