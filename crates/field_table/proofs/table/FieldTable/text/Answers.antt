-- A row that is there is a piece of the fields.
use Rattle.std.proofs.Common.{rules, ◌≡◌, ◌≤◌, ◌<◌, ◌+◌, ◌-◌, ℕ, List, [], length, sym, ap, ◌∙◌, arith}
use Rattle.std.specs.Prelude.{slice_index_or}
use Rattle.std.proofs.lemmas.List.{get_or_past}
use Rattle.field_table.proofs.Pieces.{no_piece, piece_item, piece_length}
use Rattle.field_table.proofs.table.FieldTable.text.Goals as goal

pub returns-then-row-len : goal.returns-then-row-len
returns-then-row-len c =
    let past : length c.self.inside.rows.items ≤ c.args.row = search rules in
    ap (λ (row : List (List ℕ)). slice_index_or row c.args.column [])
    (sym (no_piece c.self.inside.fields c.self.inside.rows.items c.args.row past) ∙ ap (λ rows. slice_index_or rows c.args.row []) c.self.view_is)

pub returns-then-column-end : goal.returns-then-column-end
returns-then-column-end c =
    let inside : c.args.row < length c.self.inside.rows.items = search rules in
    let n : c.piece-first.result.1 - c.piece-first.result.0 ≡ length (slice_index_or c.args.self.now c.args.row []) =
    piece_length c.self.inside.fields c.self.inside.rows.items c.args.row c.piece-first.result.0 c.piece-first.result.1 c.self.invariant inside
    (c.piece-first.ensures.start ∙ ap (λ starts. slice_index_or starts c.args.row 0) c.deref.ensures.value)
    (c.piece-first.ensures.end ∙ ap (λ starts. slice_index_or starts (c.args.row + 1) c.len-2.result) c.deref.ensures.value
    ∙ ap (slice_index_or c.self.inside.rows.items (c.args.row + 1)) c.len-2.ensures)
    ∙ ap (λ rows. length (slice_index_or rows c.args.row [])) c.self.view_is in
    let past : c.piece-first.result.1 - c.piece-first.result.0 ≤ c.args.column = search rules in
    sym (get_or_past (slice_index_or c.args.self.now c.args.row []) c.args.column [] (omega (arith, n, past)))

pub returns : goal.returns
returns c =
    let inside : c.args.row < length c.self.inside.rows.items = search rules in
    let within : c.args.column < c.piece-first.result.1 - c.piece-first.result.0 = search rules in
    c.text.ensures
    ∙ piece_item c.self.inside.fields c.self.inside.rows.items c.args.row c.args.column c.piece-first.result.0 c.piece-first.result.1 [] inside
    (c.piece-first.ensures.start ∙ ap (λ starts. slice_index_or starts c.args.row 0) c.deref.ensures.value)
    (c.piece-first.ensures.end ∙ ap (λ starts. slice_index_or starts (c.args.row + 1) c.len-2.result) c.deref.ensures.value
    ∙ ap (slice_index_or c.self.inside.rows.items (c.args.row + 1)) c.len-2.ensures)
    within
    ∙ ap (λ rows. slice_index_or (slice_index_or rows c.args.row []) c.args.column []) c.self.view_is
