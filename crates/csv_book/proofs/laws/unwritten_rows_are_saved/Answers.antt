use Rattle.csv_book.proofs.Saved.{saved-unwritten}
use Rattle.csv_book.proofs.laws.unwritten_rows_are_saved.Goals as goal

pub returns : goal.returns
returns c = saved-unwritten
