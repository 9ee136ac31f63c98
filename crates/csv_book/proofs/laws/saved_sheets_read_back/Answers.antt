use Rattle.csv_book.proofs.Again.{sheet_again}
use Rattle.csv_book.proofs.laws.saved_sheets_read_back.Goals as goal

pub returns : goal.returns
returns c = sheet_again
