use Rattle.std.proofs.Common.{◌≡◌, ℕ, ◌<◌, ◌≤◌, true}
use Rattle.sheet_host.specs.Field.{is_empty}
use Rattle.sheet_host.specs.Search.{kept_content}
use Rattle.sheet_host.specs.Sheets.{value_at}
use Rattle.sheet_host.proofs.filled.first_in_fields.Given as goal

abbrev pub invariant-loop-column : goal.invariant-loop-column
invariant-loop-column l = (c : ℕ) → c < l.column → l.from ≤ c → is_empty (value_at (kept_content l.rows l.pages.entries) (l.row, c)) ≡ true
