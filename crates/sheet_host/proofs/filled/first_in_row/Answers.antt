use Rattle.std.proofs.Common.{ap, ◌∙◌, ◌+◌, ◌≤◌, ℕ, arith}
use Rattle.std.specs.Prelude.{min}
use Rattle.sheet_host.specs.Search.{kept_content}
use Rattle.sheet_host.proofs.Searches.{row_none, row_some}
use Rattle.sheet_host.proofs.filled.first_in_row.Goals as goal

pub returns-in-Some : goal.returns-in-Some
returns-in-Some c =
    row_some (kept_content c.args.rows.now c.args.pages.now.entries) c.args.search c.max-from.result c.min-end.result c.in-Some.column c.max-from.ensures
    (omega (arith, c.min-end.ensures)) c.in-Some.ensures

pub returns : goal.returns
returns c =
    let wide : c.args.search.end_column ≤ 16385 = omega (arith, c.requires.search.last_column) in
    let same = c.max.ensures in
    row_none c.args.rows.now c.args.pages.now.entries c.args.search c.max-from.result (c.min.result + 1) c.min-end.result c.first_written.result c.max-from.ensures
    (ap (λ (n : ℕ). n + 1) (c.min.ensures ∙ ap (λ n. min n 16384) c.field_count.ensures)) c.min-end.ensures wide c.in_default.ensures
    (rw (← same) c.first_written.ensures)
