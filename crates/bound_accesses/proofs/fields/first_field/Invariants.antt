use Rattle.std.proofs.Common.{◌≡◌, map, drop}
use Rattle.binder.specs.Scopes.{first_at}
use Rattle.bound_project.specs.View.{declaration_view}
use Rattle.bound_accesses.specs.Fields.{is_field_named}
use Rattle.bound_accesses.proofs.fields.first_field.Given as goal

abbrev pub invariant-loop-number : goal.invariant-loop-number
invariant-loop-number l =
    first_at (is_field_named l.name) l.number (map declaration_view (drop l.number l.fields)) ≡ first_at (is_field_named l.name) 0 (map declaration_view l.fields)
