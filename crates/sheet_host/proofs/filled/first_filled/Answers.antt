use Rattle.std.proofs.Common.{ap, ◌∙◌, ◌+◌, ◌≤◌, ℕ, arith}
use Rattle.std.specs.Prelude.{min}
use Rattle.sheet_host.specs.Search.{kept_content}
use Rattle.sheet_host.proofs.Searches.{filled_none, filled_some}
use Rattle.sheet_host.proofs.filled.first_filled.Goals as goal

pub returns-in-Some : goal.returns-in-Some
returns-in-Some c =
    filled_some (kept_content c.args.rows.now c.args.pages.now.entries) c.args.search c.min-end.result c.in-Some.place (omega (arith, c.min-end.ensures)) c.in-Some.ensures

pub returns : goal.returns
returns c =
    let inside : c.args.search.end_row ≤ 1048577 = omega (arith, c.requires.search.last_row) in
    filled_none c.args.rows.now c.args.pages.now.entries c.args.search c.from_row.result c.min-end.result c.first_written.result
    (c.min-end.ensures ∙ ap (λ (n : ℕ). min (n + 1) c.args.search.end_row) (c.min.ensures ∙ ap (λ n. min n 1048576) c.row_count.ensures))
    inside c.from_row.ensures.row c.from_row.ensures.end c.from_row.ensures.same c.from_row.ensures.part c.in_default.ensures c.first_written.ensures
