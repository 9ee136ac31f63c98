use Rattle.bound_names.specs.bound_members.specs.bound_calls.specs.bound_declarations.specs.constant_values.specs.declared_names.specs.View.{scope_view}
use Rattle.module_parts.specs.View.{part_view}
use Rattle.bind_project.proofs.Rows.{row_there, row_fits, next_walked}
use Rattle.bind_project.proofs.modules.bind_headed.Goals as goal

pub bind_procedure-requires-clause-fits : goal.bind_procedure-requires-clause-fits
bind_procedure-requires-clause-fits c =
    row_fits (scope_view c.args.home.scope) c.args.rows.now c.args.next c.in-Some.row.now c.requires.fit
    (row_there c.args.rows.now c.args.next c.in-Some.row.now c.in-Some.ensures.lookup.3.0 c.in-Some.ensures.lookup.1)

pub returns-in_ok-bind_procedure-in-Some : goal.returns-in_ok-bind_procedure-in-Some
returns-in_ok-bind_procedure-in-Some c =
    λ all every left base walked. next_walked (scope_view c.args.home.scope) c.args.rows.now c.args.next c.in-Some.row.now all every left base (part_view c.args.part.now) _ _
    (row_there c.args.rows.now c.args.next c.in-Some.row.now c.in-Some.ensures.lookup.3.0 c.in-Some.ensures.lookup.1)
    c.requires.header c.requires.built c.in_ok-bind_procedure-in-Some.ensures walked
