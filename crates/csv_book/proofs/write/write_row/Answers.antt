-- Each column adds its field.
use Rattle.std.proofs.Common.{◌≡◌, ◌+◌, ℕ, List, map, ◌∙◌, arith}
use Rattle.vba_base.specs.Text.{encoded}
use Rattle.sheet_host.specs.Sheets.{saved_fields, text_at}
use Rattle.csv_book.specs.Writing.{saved_row}
use Rattle.csv_book.proofs.Lines.{column_written, line_written}
use Rattle.csv_book.proofs.write.write_row.Goals as goal

pub write_cell-requires : goal.write_cell-requires
write_cell-requires c = record {
  first_row = c.requires.first;
  last_row = c.requires.inside;
  first_column = omega arith;
  last_column = omega (arith, c.saved_fields-column-end.ensures.inside, c.loop-column-test.true);
}

pub loop-column-preserved : goal.loop-column-preserved
loop-column-preserved c =
    let text : ℕ → List ℕ = λ column. text_at c.args.sheet.now (c.args.row, column) in
    let column = c.loop-column.column in
    column_written c.args.file.now.items c.loop-column.file.items _ _ text column (column + 1) (omega arith)
    c.loop-column.invariant c.in_ok-write_comma.ensures c.in_ok-write_cell.ensures

pub returns : goal.returns
returns c =
    let sheet = c.args.sheet.now in
    let row = c.args.row in
    let fields = map encoded (saved_row sheet row) in
    let count : c.loop-column.column ≡ saved_fields sheet row = omega (arith, c.saved_fields-column-end.ensures.fields, c.loop-column-test.false, c.loop-column.auto.column-end) in
    let all = rw count at c.loop-column.invariant in
    let ended = rw (c.len.ensures, c.len-start.ensures, c.loop-column.file.ok.0, c.args.file.now.ok.0) at c.in_ok-end_row.ensures in
    ended ∙ line_written c.loop-column.file.items c.args.file.now.items fields all
