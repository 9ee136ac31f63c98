use Rattle.std.proofs.Common.{sym, ◌∙◌}
use Rattle.csv_book.proofs.Texts.{is_utf8-is_ok}
use Rattle.csv_book.proofs.row.is_utf8.Goals as goal

pub returns : goal.returns
returns c = c.is_ok.ensures.value ∙ sym (is_utf8-is_ok c.args.field.now c.from_utf8.result _ _ c.from_utf8.ensures.cases)
