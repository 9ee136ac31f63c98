use Rattle.std.proofs.Common.{sym, ap, ◌∙◌}
use Rattle.constant_values.specs.declared_names.specs.binder.specs.Names.{scope_in}
use Rattle.constant_values.specs.declared_names.specs.binder.specs.Scopes.{Scope}
use Rattle.constant_values.specs.declared_names.specs.binder.specs.Violations.{in_body, names_said, types_said}
use Rattle.constant_values.specs.declared_names.specs.View.{scope_view, written_view}
use Rattle.use_rules.specs.Found.{noted}
use Rattle.name_rules.proofs.DeclaredHere.{procedure_named}
use Rattle.name_rules.proofs.procedures.note_procedure.Goals as goal

pub returns-clause-twice : goal.returns-clause-twice
returns-clause-twice c =
    let p = written_view c.args.written in
    c.in_ok-note_twice_in.ensures ∙ ap (noted 15 c.args.found.now.twice) (sym (procedure_named (scope_in (scope_view c.args.scope) p) p))

pub returns-clause-types : goal.returns-clause-types
returns-clause-types c =
    let p = written_view c.args.written in
    c.in_ok-note_inside.ensures.types ∙ ap (λ (s : Scope). noted 16 c.args.found.now.body.types (in_body (λ within. types_said s) p)) c.scope_inside-inner.ensures

pub returns-clause-names : goal.returns-clause-names
returns-clause-names c =
    let p = written_view c.args.written in
    c.in_ok-note_inside.ensures.names ∙ ap (λ (s : Scope). noted 17 c.args.found.now.body.names (in_body (names_said s) p)) c.scope_inside-inner.ensures
