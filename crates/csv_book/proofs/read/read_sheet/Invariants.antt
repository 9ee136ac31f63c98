-- The sheet has the rows that were read, one more for each turn.
use Rattle.std.proofs.Common.{◌-◌, length}
use Rattle.csv_book.proofs.Steps.{HasRead}
use Rattle.csv_book.proofs.read.read_sheet.Given as goal

abbrev pub invariant-loop-sheet : goal.invariant-loop-sheet
invariant-loop-sheet l = HasRead l.bytes l.rest l.sheet

abbrev pub decreases-loop-sheet : goal.decreases-loop-sheet
decreases-loop-sheet l = 1048576 - length l.sheet.rows
