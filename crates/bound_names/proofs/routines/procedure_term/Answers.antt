use Rattle.std.proofs.Common.{sym, ◌∙◌}
use Rattle.std.proofs.lemmas.Result.{IfOk-weaker}
use Rattle.bound_members.specs.bound_calls.specs.bound_declarations.specs.constant_values.specs.declared_names.specs.View.{entry_view, space_view, written_view}
use Rattle.bound_names.specs.View.{env_view}
use Rattle.bound_names.proofs.RoutineTerms.{plain_procedure}
use Rattle.bound_names.proofs.routines.procedure_term.Goals as goal

pub property_term-requires-clause-placed : goal.property_term-requires-clause-placed
property_term-requires-clause-placed c = c.requires.there.0

pub routine_at-requires-clause-placed : goal.routine_at-requires-clause-placed
routine_at-requires-clause-placed c = c.requires.there.0

pub routine_at-requires-clause-entry : goal.routine_at-requires-clause-entry
routine_at-requires-clause-entry c = record { entry = entry_view c.args.entry; at = c.requires.there.1; what = c.requires.what }

pub returns-then-is_property : goal.returns-then-is_property
returns-then-is_property c =
    IfOk-weaker c.property_term.result _ _ (λ t m. m (sym c.is_property.ensures ∙ c.if-is_property.true) c.args.number) c.property_term.ensures

pub returns : goal.returns
returns c =
    plain_procedure (env_view c.args.env) c.args.receiver (space_view c.args.space.now) c.args.number (written_view c.args.written) c.in_ok-routine.routine (sym c.is_property.ensures ∙ c.if-is_property.false) c.in_ok-routine.ensures
