use Rattle.std.proofs.Common.{◌≡◌, ◌++◌, map, length}
use Rattle.declared_names.specs.binder.specs.Declarations.{Entry}
use Rattle.declared_names.specs.binder.specs.Constants.{entry_by}
use Rattle.declared_names.specs.View.{entry_view, scope_view}
use Rattle.constant_values.specs.Names.{names_from}
use Rattle.constant_values.specs.View.{names_view, slots_view}
use Rattle.constant_values.proofs.tables.space_by.Given as goal

abbrev pub invariant-loop-left : goal.invariant-loop-left
invariant-loop-left l =
    slots_view l.slots.items
    ++ map (λ (e : Entry). entry_by (names_from (names_view l.names)) (scope_view l.scope) e.what) (map entry_view l.left)
    ≡ map (λ (e : Entry). entry_by (names_from (names_view l.names)) (scope_view l.scope) e.what) (map entry_view l.fn.space.entries.items)

abbrev pub decreases-loop-left : goal.decreases-loop-left
decreases-loop-left l = length l.left
