use Rattle.std.proofs.Common.{◌≤◌}
use Rattle.sheet_host.specs.Search.{IsFound, before_row, kept_content}
use Rattle.sheet_host.specs.Sheets.{Position}
use Rattle.sheet_host.proofs.filled.first_in_rows.Given as goal

abbrev pub invariant-loop-row : goal.invariant-loop-row
invariant-loop-row l = (p : Position) → IsFound (kept_content l.rows l.pages.entries) (before_row l.search l.end) p → l.row ≤ p.0
