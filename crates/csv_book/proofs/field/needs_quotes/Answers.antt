-- A text needs quotes where one of its units does.
use Rattle.std.proofs.Common.{sym, ◌∙◌, arith}
use Rattle.std.proofs.lemmas.List.{take_all}
use Rattle.std.proofs.lemmas.List.Folds.{list_any_at}
use Rattle.csv.specs.Writing.{default_writer, needs_byte}
use Rattle.csv_book.proofs.Characters.{needs_of_text}
use Rattle.csv_book.proofs.field.needs_quotes.Goals as goal

pub returns-then-needs_quote : goal.returns-then-needs_quote
returns-then-needs_quote c =
    let found = sym c.needs_quote.ensures ∙ c.if-needs_quote.true in
    sym (needs_of_text c.args.text.now ∙ list_any_at (needs_byte default_writer) c.args.text.now c.loop-unit.unit-index 0 c.loop-unit-test.true found)

pub returns : goal.returns
returns c =
    let none = rw (take_all c.loop-unit.unit-index c.args.text.now (omega arith)) at c.loop-unit.invariant in
    sym (needs_of_text c.args.text.now ∙ none)
