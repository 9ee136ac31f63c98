use Rattle.std.proofs.Common.{sym, ap, ◌∙◌}
use Rattle.std.specs.Prelude.{option_map}
use Rattle.bound_members.specs.bound_calls.specs.bound_declarations.specs.constant_values.specs.declared_names.specs.Lookup.{found_view}
use Rattle.bound_members.specs.bound_calls.specs.bound_declarations.specs.constant_values.specs.declared_names.specs.View.{entry_view, scope_view, space_view, what_view, written_view}
use Rattle.bound_names.proofs.Lookups.{entry_found, no_procedure, property_is, property_none}
use Rattle.bound_names.proofs.properties.property_with.Goals as goal

pub returns-in-Procedure-clause-is : goal.returns-in-Procedure-clause-is
returns-in-Procedure-clause-is c =
    let s = scope_view c.args.scope in
    let space = space_view c.args.space.now in
    property_is c.args.part s space c.args.name.now c.in-Some.number (entry_view c.in-Some.entry) (written_view c.in-Procedure.written) (sym c.first_wanted.ensures ∙ ap (λ o. option_map found_view o) c.in-Some.is) (ap what_view c.in-Procedure.is)

pub returns-in-Procedure-clause-entry : goal.returns-in-Procedure-clause-entry
returns-in-Procedure-clause-entry c =
    let s = scope_view c.args.scope in
    let space = space_view c.args.space.now in
    entry_found c.args.part s space c.args.name.now c.in-Some.number (entry_view c.in-Some.entry) (written_view c.in-Procedure.written) (sym c.first_wanted.ensures ∙ ap (λ o. option_map found_view o) c.in-Some.is) (ap what_view c.in-Procedure.is)

pub returns-in_default-what-clause-is : goal.returns-in_default-what-clause-is
returns-in_default-what-clause-is c =
    property_none c.args.part (scope_view c.args.scope) (space_view c.args.space.now) c.args.name.now c.in-Some.number (entry_view c.in-Some.entry) (sym c.first_wanted.ensures ∙ ap (λ o. option_map found_view o) c.in-Some.is)
    (no_procedure c.in-Some.entry.what c.in_default-what.not-Procedure)
