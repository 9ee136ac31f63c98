use Rattle.std.proofs.Common.{◌≡◌, ◌+◌, map, drop}
use Rattle.project_tables.specs.Rows.{row_view}
use Rattle.project_tables.specs.Steps.{statics_of}
use Rattle.project_tables.proofs.counting.static_count.Given as goal

abbrev pub invariant-loop-row : goal.invariant-loop-row
invariant-loop-row l = l.count + statics_of (map row_view (drop l.row-index l.rows)) ≡ statics_of (map row_view l.rows)
