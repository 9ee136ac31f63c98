-- What is left of the file, read on from the state that the row is in, is the next row.
use Rattle.csv_book.proofs.RowBytes.{IsAt}
use Rattle.csv_book.proofs.row.read_row.Given as goal

abbrev pub invariant-loop-place : goal.invariant-loop-place
invariant-loop-place l = IsAt l.fn.sheet.rows l.bytes l.place l.row l.sheet
