use Rattle.std.proofs.Common.{◌≡◌, map, length}
use Rattle.vba_lib.specs.Names.{sought}
use Rattle.vba_lib.proofs.table.sought.Given as goal

abbrev pub invariant-loop-table : goal.invariant-loop-table
invariant-loop-table g l =
    sought l.name (map (λ row. (row.0.now, row.1)) l.table) ≡ sought l.name (map (λ row. (row.0.now, row.1)) l.fn.table)

abbrev pub decreases-loop-table : goal.decreases-loop-table
decreases-loop-table g l = length l.table
