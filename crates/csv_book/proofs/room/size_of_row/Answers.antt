-- The columns of a saved row stand in the sheet.
use Rattle.std.proofs.Common.{arith}
use Rattle.csv_book.proofs.room.size_of_row.Goals as goal

pub saved_text-requires : goal.saved_text-requires
saved_text-requires c = record {
  first_row = c.requires.first;
  last_row = c.requires.inside;
  first_column = omega arith;
  last_column = omega (arith, c.saved_fields-column-end.ensures.inside, c.loop-column-test.true);
}
