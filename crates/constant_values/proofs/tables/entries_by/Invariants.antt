use Rattle.std.proofs.Common.{◌≡◌, ◌++◌, map, length}
use Rattle.declared_names.specs.Outside.{the_outside}
use Rattle.declared_names.specs.View.{space_view}
use Rattle.constant_values.specs.Names.{space_by}
use Rattle.constant_values.specs.View.{names_view, tables_view}
use Rattle.constant_values.proofs.tables.entries_by.Given as goal

abbrev pub invariant-loop-left : goal.invariant-loop-left
invariant-loop-left l =
    tables_view l.tables.items ++ map (space_by (names_view l.names) the_outside (map space_view l.spaces)) (map space_view l.left)
    ≡ map (space_by (names_view l.names) the_outside (map space_view l.spaces)) (map space_view l.spaces)

abbrev pub decreases-loop-left : goal.decreases-loop-left
decreases-loop-left l = length l.left
