use Rattle.std.proofs.Common.{rules, length, sym, ap, ◌≡◌, ◌∙◌}
use Rattle.field_table.proofs.Pieces.{length_pieces}
use Rattle.field_table.proofs.table.FieldTable.row_count.Goals as goal

pub returns : goal.returns
returns c =
    let n : c.len.result ≡ length c.self.inside.rows.items = search rules in
    n ∙ sym (length_pieces c.self.inside.fields c.self.inside.rows.items) ∙ ap length c.self.view_is
