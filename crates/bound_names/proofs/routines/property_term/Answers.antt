use Rattle.std.proofs.Common.{ℕ}
use Rattle.bound_members.specs.bound_calls.specs.bound_declarations.specs.constant_values.specs.declared_names.specs.binder.specs.Declarations.{Written}
use Rattle.bound_members.specs.bound_calls.specs.bound_declarations.specs.constant_values.specs.declared_names.specs.View.{space_view, written_view}
use Rattle.bound_names.specs.View.{env_view}
use Rattle.bound_names.proofs.RoutineTerms.{property_read, property_unread}
use Rattle.bound_names.proofs.routines.property_term.Goals as goal

pub routine_at-requires-clause-entry : goal.routine_at-requires-clause-entry
routine_at-requires-clause-entry c = c.in-Some.ensures.entry

pub returns-in_ok-routine-in-Some : goal.returns-in_ok-routine-in-Some
returns-in_ok-routine-in-Some c =
    let space = space_view c.args.space.now in
    let written = written_view c.args.written in
    let read : ℕ × Written = (c.in-Some.number, written_view c.in-Some.read) in
    property_read (env_view c.args.env) c.args.receiver space written read c.in_ok-routine-in-Some.routine c.in-Some.ensures.is c.in_ok-routine-in-Some.ensures

pub returns-in-None : goal.returns-in-None
returns-in-None c =
    property_unread (env_view c.args.env) (record { receiver = c.args.receiver; space = c.args.space; written = c.args.written }) c.in-None.ensures.is c.requires.placed
