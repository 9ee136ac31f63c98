-- What is saved of a sheet to which nothing was written.
use Rattle.std.proofs.Common.{◌≡◌, ℕ, zero, suc, ◌+◌, ◌-◌, List, [], ◌∷◌, map, length, get_or, option_map, unwrap_or, refl, sym, ap, ◌∙◌, arith}
use Rattle.std.specs.FinMap.{empty, entries, get-empty, len-empty, len-entries}
use Rattle.std.specs.List.{range_with_len}
use Rattle.std.proofs.lemmas.List.FromFn.{fill_by_all}
use Rattle.sheet_host.specs.Field.{field_of_cell}
use Rattle.sheet_host.specs.Sheets.{Cells, Position, columns_in, field_at, fields_of, greatest, position_cmp, rows_of, saved_among, saved_fields, saved_positions, saved_rows, text_at}
use Rattle.sheet_host.specs.declared.cell.CellValue.{CellValue}
use Rattle.csv_book.specs.Reading.{Rows, sheet_of_rows}
use Rattle.csv_book.specs.Writing.{saved, saved_row}

-- the items of a list by their places from 1
shifted : {A : Type 0} (f : ℕ → A) (a n : ℕ) → map f (range_with_len (a + 1) n) ≡ map (λ k. f (k + 1)) (range_with_len a n)
shifted f a zero = refl
shifted f a (suc n) = ap (λ rest. f (a + 1) ∷ rest) (shifted f (a + 1) n)

from_one : {A : Type 0} (items : List A) (d : A) → map (λ k. get_or items (k - 1) d) (range_with_len 1 (length items)) ≡ items
from_one items d =
    shifted (λ k. get_or items (k - 1) d) 0 (length items)
    ∙ sym (fill_by_all (λ k. get_or items (k + 1 - 1) d) items (length items) d refl
    (λ k below. let same : k ≡ k + 1 - 1 = omega arith in ap (λ j. get_or items j d) same))

no_items : {A : Type 0} (items : List A) → length items ≡ 0 → items ≡ []
no_items [] none = refl
no_items (item ∷ items) none = absurd (omega arith)

abbrev no_cells : Cells
no_cells = empty

none_written : entries no_cells ≡ []
none_written = no_items (entries no_cells) (sym (len-entries no_cells) ∙ len-empty position_cmp CellValue)

none_saved : (rows : Rows) → saved_positions (sheet_of_rows rows) ≡ []
none_saved rows = ap saved_among none_written

saved_rows-unwritten : (rows : Rows) → saved_rows (sheet_of_rows rows) ≡ length rows
saved_rows-unwritten rows = ap (λ positions. greatest (length rows) (rows_of positions)) (none_saved rows)

saved_fields-unwritten : (rows : Rows) (row : ℕ) → saved_fields (sheet_of_rows rows) row ≡ length (fields_of (sheet_of_rows rows) row)
saved_fields-unwritten rows row = ap (λ positions. greatest (length (fields_of (sheet_of_rows rows) row)) (columns_in row positions)) (none_saved rows)

text_at-unwritten : (rows : Rows) (p : Position) → text_at (sheet_of_rows rows) p ≡ field_at (sheet_of_rows rows) p
text_at-unwritten rows p = ap (λ cell. unwrap_or (option_map field_of_cell cell) (field_at (sheet_of_rows rows) p)) (get-empty position_cmp p)

saved_row-unwritten : (rows : Rows) (row : ℕ) → saved_row (sheet_of_rows rows) row ≡ fields_of (sheet_of_rows rows) row
saved_row-unwritten rows row =
    ap (λ n. map (λ column. text_at (sheet_of_rows rows) (row, column)) (range_with_len 1 n)) (saved_fields-unwritten rows row)
    ∙ (λ i. map (λ column. text_at-unwritten rows (row, column) i) (range_with_len 1 (length (fields_of (sheet_of_rows rows) row))))
    ∙ from_one (fields_of (sheet_of_rows rows) row) []

-- all rows are saved, as they were read
pub saved-unwritten : (rows : Rows) → saved (sheet_of_rows rows) ≡ rows
saved-unwritten rows =
    ap (λ n. map (saved_row (sheet_of_rows rows)) (range_with_len 1 n)) (saved_rows-unwritten rows)
    ∙ (λ i. map (λ row. saved_row-unwritten rows row i) (range_with_len 1 (length rows)))
    ∙ from_one rows []
