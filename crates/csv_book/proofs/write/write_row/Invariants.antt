-- The fields up to this column were written.
use Rattle.std.proofs.Common.{◌≡◌, ◌++◌, map}
use Rattle.std.specs.List.{range_with_len}
use Rattle.csv.specs.Writing.{default_writer, row_body}
use Rattle.vba_base.specs.Text.{encoded}
use Rattle.sheet_host.specs.Sheets.{text_at}
use Rattle.csv_book.proofs.write.write_row.Given as goal

abbrev pub invariant-loop-column : goal.invariant-loop-column
invariant-loop-column l =
    l.file.items ≡ l.fn.file.items ++ row_body default_writer (map encoded (map (λ column. text_at l.sheet (l.row, column)) (range_with_len 1 l.column)))
