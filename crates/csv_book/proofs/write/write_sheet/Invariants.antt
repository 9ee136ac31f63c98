-- The lines up to this row were written.
use Rattle.std.proofs.Common.{◌≡◌, map}
use Rattle.std.specs.List.{range_with_len}
use Rattle.csv_book.specs.Writing.{saved_row, text_of_rows}
use Rattle.csv_book.proofs.write.write_sheet.Given as goal

abbrev pub invariant-loop-row : goal.invariant-loop-row
invariant-loop-row l = l.file.items ≡ text_of_rows (map (saved_row l.sheet) (range_with_len 1 l.row))
