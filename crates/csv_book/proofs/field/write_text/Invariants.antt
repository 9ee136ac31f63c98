-- What was written, and the text that is left, are the whole text.
use Rattle.std.proofs.Common.{◌≡◌, ◌++◌, length}
use Rattle.csv.specs.Writing.{default_writer, escaped}
use Rattle.vba_base.specs.Text.{encoded}
use Rattle.csv_book.proofs.field.write_text.Given as goal

abbrev pub invariant-loop-character : goal.invariant-loop-character
invariant-loop-character l = l.file.items ++ escaped default_writer (encoded l.rest) ≡ l.fn.file.items ++ escaped default_writer (encoded l.text)

abbrev pub decreases-loop-character : goal.decreases-loop-character
decreases-loop-character l = length l.rest
