use Rattle.std.proofs.Common.{rules, ◌≤◌, ◌<◌, ◌+◌, [], length, sym, ap, ◌∙◌}
use Rattle.std.specs.Prelude.{slice_index_or}
use Rattle.field_table.proofs.Pieces.{no_piece, piece_length}
use Rattle.field_table.proofs.table.FieldTable.field_count.Goals as goal

pub returns-then-row-len : goal.returns-then-row-len
returns-then-row-len c =
    let past : length c.self.inside.rows.items ≤ c.args.row = search rules in
    ap length (sym (no_piece c.self.inside.fields c.self.inside.rows.items c.args.row past) ∙ ap (λ rows. slice_index_or rows c.args.row []) c.self.view_is)

pub returns : goal.returns
returns c =
    let inside : c.args.row < length c.self.inside.rows.items = search rules in
    piece_length c.self.inside.fields c.self.inside.rows.items c.args.row c.piece-first.result.0 c.piece-first.result.1 c.self.invariant inside
    (c.piece-first.ensures.start ∙ ap (λ starts. slice_index_or starts c.args.row 0) c.deref.ensures.value)
    (c.piece-first.ensures.end ∙ ap (λ starts. slice_index_or starts (c.args.row + 1) c.len-2.result) c.deref.ensures.value
    ∙ ap (slice_index_or c.self.inside.rows.items (c.args.row + 1)) c.len-2.ensures)
    ∙ ap (λ rows. length (slice_index_or rows c.args.row [])) c.self.view_is
