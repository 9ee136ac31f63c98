use Rattle.std.proofs.Common.{◌≡◌, length}
use Rattle.constant_values.specs.Slots.{are_same_tables}
use Rattle.constant_values.specs.View.{tables_view}
use Rattle.constant_values.proofs.slots.are_same_tables.Given as goal

abbrev pub invariant-loop-tables : goal.invariant-loop-tables
invariant-loop-tables l = are_same_tables (tables_view l.tables) (tables_view l.others) ≡ are_same_tables (tables_view l.fn.tables) (tables_view l.fn.others)

abbrev pub decreases-loop-tables : goal.decreases-loop-tables
decreases-loop-tables l = length l.tables
