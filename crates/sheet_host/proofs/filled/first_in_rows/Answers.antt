use Rattle.std.proofs.Common.{◌≡◌, arith}
use Rattle.sheet_host.specs.Search.{kept_content}
use Rattle.sheet_host.proofs.Searches.{rows_none, rows_some}
use Rattle.sheet_host.proofs.filled.first_in_rows.Goals as goal

pub returns-in-Some : goal.returns-in-Some
returns-in-Some c =
    let s = kept_content c.args.rows.now c.args.pages.now.entries in
    let row : c.from_row-part.result.row ≡ c.loop-row.row = omega (arith, c.from_row-part.ensures.row) in
    rows_some s c.args.search c.from_row-part.result c.loop-row.row c.args.end c.in-Some.place c.loop-row.invariant c.loop-row-test.true c.requires.end row c.from_row-part.ensures.end
    (c.from_row-part.ensures.same s) (c.from_row-part.ensures.part s) c.in-Some.ensures

pub loop-row-preserved : goal.loop-row-preserved
loop-row-preserved c =
    let s = kept_content c.args.rows.now c.args.pages.now.entries in
    let row : c.from_row-part.result.row ≡ c.loop-row.row = omega (arith, c.from_row-part.ensures.row) in
    rows_none s c.args.search c.from_row-part.result c.loop-row.row c.args.end c.loop-row.invariant c.requires.end row (c.from_row-part.ensures.same s) c.in_default.ensures
