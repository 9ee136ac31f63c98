-- The field is counted, and its text is added unless the row has a fault.
use Rattle.std.proofs.Common.{◌∙◌, not, inl, inr, ap, sym}
use Rattle.std.specs.Option.{is_some}
use Rattle.sheet_host.specs.Sheets.{with_field}
use Rattle.csv_book.specs.Reading.{text_of_bytes}
use Rattle.csv_book.proofs.RowRead.{counted, texts_added, texts_refused}
use Rattle.csv_book.proofs.row.end_field.Goals as goal
use Rattle.csv_book.proofs.row.end_field.Goals.{then-is_none+in_ok-push_text, then-row-eq1+in_ok-push_row, else-row-eq1, else-is_none}

pub returns-clause-fields : goal.returns-clause-fields
returns-clause-fields c = λ rows fields is.
    let row = c.count_field.new.row in
    let more = counted rows fields c.args.row.now.field.items c.args.row.now row is.counted c.count_field.ensures.number c.count_field.ensures.columns
    c.count_field.ensures.utf8 in
    record {
      counted = record { number = more.number; columns = more.columns; utf8 = more.utf8 };
      texts = elim c.if-is_none.branch [
        | then-is_none+in_ok-push_text w ↦
            texts_added rows fields c.args.row.now.field.items row c.args.sheet.now w.if-row-eq1.sheet c.if-is_none.sheet is.texts more
            (elim w.if-row-eq1.branch [
              | then-row-eq1+in_ok-push_row w' ↦ inl (w'.if-row-eq1.true, w'.sheet-is ∙ w'.in_ok-push_row.ensures.ok)
              | else-row-eq1 w' ↦ inr (w'.if-row-eq1.false, w'.sheet-is)
            ])
            (w.sheet-is ∙ w.in_ok-push_text.ensures.ok
            ∙ ap (λ bytes. with_field w.if-row-eq1.sheet (text_of_bytes bytes)) (w.text_of_field.ensures ∙ w.deref.ensures.value ∙ c.count_field.ensures.field))
        | else-is_none w ↦ texts_refused rows fields c.args.row.now.field.items row c.if-is_none.sheet more
            (ap is_some (sym c.fault.ensures) ∙ c.is_none.ensures ∙ ap not w.if-is_none.false)
      ];
    }
