use Rattle.std.proofs.Common.{◌≡◌, ◌&&◌, map, drop}
use Rattle.bound_members.specs.bound_calls.specs.bound_declarations.specs.constant_values.specs.declared_names.specs.binder.specs.Declarations.{Entry}
use Rattle.bound_members.specs.bound_calls.specs.bound_declarations.specs.constant_values.specs.declared_names.specs.binder.specs.Scopes.{first_at, is_named}
use Rattle.bound_members.specs.bound_calls.specs.bound_declarations.specs.constant_values.specs.declared_names.specs.View.{entry_view, scope_view, space_view}
use Rattle.bound_names.specs.Properties.{first_wanted, wants}
use Rattle.bound_names.proofs.properties.first_wanted.Given as goal
use Rattle.bound_members.specs.bound_calls.specs.bound_declarations.specs.constant_values.specs.declared_names.specs.binder.specs.Classes.{reaches}

abbrev pub invariant-loop-number : goal.invariant-loop-number
invariant-loop-number l =
    first_at (λ (e : Entry). is_named l.name.name e.name && (reaches (scope_view l.scope) (space_view l.space) e && wants l.part e.what)) l.number (map entry_view (drop l.number l.space.entries.items))
    ≡ first_wanted l.part (scope_view l.scope) (space_view l.space) l.name
