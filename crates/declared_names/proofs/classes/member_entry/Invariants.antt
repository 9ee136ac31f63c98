use Rattle.std.proofs.Common.{◌≡◌, ◌&&◌, map, drop}
use Rattle.binder.specs.Classes.{is_of_object, member_entry, reaches}
use Rattle.binder.specs.Declarations.{Entry}
use Rattle.binder.specs.Scopes.{first_at, is_named}
use Rattle.declared_names.specs.View.{entry_view, scope_view, space_view}
use Rattle.declared_names.proofs.classes.member_entry.Given as goal

abbrev pub invariant-loop-number : goal.invariant-loop-number
invariant-loop-number l =
    first_at (λ (e : Entry). is_named l.name.name e.name && (is_of_object e.what && reaches (scope_view l.scope) (space_view l.space) e)) l.number (map entry_view (drop l.number l.space.entries.items))
    ≡ member_entry (scope_view l.scope) (space_view l.space) l.name
