-- The row goes on behind a byte, or ends with it or with the file.
use Rattle.std.proofs.Common.{rules, ◌<◌, ◌≤◌, true, false, length, get_or, refl, sym, ◌∙◌}
use Rattle.csv_book.proofs.RowBytes.{IsTaken, ends, goes_on, last_row, no_row}
use Rattle.csv_book.proofs.row.read_row.Goals as goal

pub returns-then-branch : goal.returns-then-branch
returns-then-branch c =
    let at = c.loop-place.invariant in
    let inside : c.loop-place.place < length c.args.bytes.now = search rules in
    let byte = get_or c.args.bytes.now c.loop-place.place 0 in
    let taken : IsTaken byte c.args.sheet.now.rows at.fields c.loop-place.row c.take.new.row c.take.new.sheet true = record {
      state = c.in_ok-take.ensures.state;
      field = c.in_ok-take.ensures.field;
      reading = c.in_ok-take.ensures.fields c.args.sheet.now.rows at.fields at.reading;
      over = sym c.if-branch.true ∙ c.in_ok-take.ensures.ended;
    } in
    ends c.args.sheet.now.rows c.args.bytes.now c.loop-place.place byte c.loop-place.row c.take.new.row c.loop-place.sheet c.take.new.sheet at inside refl taken

pub loop-place-preserved : goal.loop-place-preserved
loop-place-preserved c =
    let at = c.loop-place.invariant in
    let inside : c.loop-place.place < length c.args.bytes.now = search rules in
    let byte = get_or c.args.bytes.now c.loop-place.place 0 in
    let taken : IsTaken byte c.args.sheet.now.rows at.fields c.loop-place.row c.take.new.row c.take.new.sheet false = record {
      state = c.in_ok-take.ensures.state;
      field = c.in_ok-take.ensures.field;
      reading = c.in_ok-take.ensures.fields c.args.sheet.now.rows at.fields at.reading;
      over = sym c.if-branch.false ∙ c.in_ok-take.ensures.ended;
    } in
    goes_on c.args.sheet.now.rows c.args.bytes.now c.loop-place.place byte c.loop-place.row c.take.new.row c.loop-place.sheet
    c.take.new.sheet at inside refl taken

pub returns-then-not-has_begun : goal.returns-then-not-has_begun
returns-then-not-has_begun c =
    let past : length c.args.bytes.now ≤ c.loop-place.place = search rules in
    no_row c.args.sheet.now.rows c.args.bytes.now c.loop-place.place c.loop-place.row c.loop-place.sheet c.loop-place.invariant past c.loop-place.row
    (sym c.has_begun.ensures ∙ c.if-not-has_begun.true)

pub returns : goal.returns
returns c =
    let at = c.loop-place.invariant in
    let past : length c.args.bytes.now ≤ c.loop-place.place = search rules in
    last_row c.args.sheet.now.rows c.args.bytes.now c.loop-place.place c.loop-place.row c.loop-place.sheet at past c.end_field.new.row c.end_field.new.sheet
    (sym c.has_begun.ensures ∙ c.if-not-has_begun.false)
    (c.in_ok-end_field.ensures.fields c.args.sheet.now.rows at.fields at.reading)
