-- Each turn takes a character off the text.
use Rattle.std.proofs.Common.{length}
use Rattle.csv_book.proofs.room.size_of_field.Given as goal

abbrev pub decreases-loop-character : goal.decreases-loop-character
decreases-loop-character l = length l.rest
