-- None of the units so far needs quotes.
use Rattle.std.proofs.Common.{◌≡◌, false, take}
use Rattle.std.specs.List.{list_any}
use Rattle.csv.specs.Writing.{default_writer, needs_byte}
use Rattle.csv_book.proofs.field.needs_quotes.Given as goal

abbrev pub invariant-loop-unit : goal.invariant-loop-unit
invariant-loop-unit l = list_any (needs_byte default_writer) (take l.unit-index l.text) ≡ false
