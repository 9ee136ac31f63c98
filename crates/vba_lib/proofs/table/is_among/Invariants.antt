use Rattle.std.proofs.Common.{◌≡◌, map, length, bytes_eq}
use Rattle.std.specs.List.{list_any}
use Rattle.vba_lib.proofs.table.is_among.Given as goal

abbrev pub invariant-loop-table : goal.invariant-loop-table
invariant-loop-table l =
    list_any (bytes_eq l.name) (map (λ row. row.now) l.table) ≡ list_any (bytes_eq l.name) (map (λ row. row.now) l.fn.table)

abbrev pub decreases-loop-table : goal.decreases-loop-table
decreases-loop-table l = length l.table
