use Rattle.std.proofs.Common.{◌≡◌, ◌&&◌, map, drop}
use Rattle.binder.specs.Scopes.{first_at, is_named}
use Rattle.declared_names.specs.Lookup.{passes}
use Rattle.declared_names.specs.View.{entry_view, space_view}
use Rattle.declared_names.proofs.lookup.first_entry.Given as goal

abbrev pub invariant-loop-number : goal.invariant-loop-number
invariant-loop-number l =
    first_at (λ e. is_named l.name.name e.name && passes l.wanted l.is_own (space_view l.space) e) l.number (map entry_view (drop l.number l.space.entries.items))
    ≡ first_at (λ e. is_named l.name.name e.name && passes l.wanted l.is_own (space_view l.space) e) 0 (map entry_view l.space.entries.items)
