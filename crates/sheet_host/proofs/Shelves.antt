-- The sheets that a book keeps.
use Rattle.std.proofs.Common.{◌≡◌, ℕ, zero, suc, ◌+◌, ◌-◌, ◌<◌, ◌≤◌, ◌^◌, cond, List, [], ◌∷◌, ◌++◌, length, refl, sym, ap, subst, ◌∙◌, arith}
use Rattle.std.specs.Prelude.{not, bytes_eq, position, sum_by, nat_lt, Some, None, is_none, true, false}
use Rattle.std.specs.List.{prefix_len}
use Rattle.std.specs.FinMap.{get, len}
use Rattle.std.proofs.lemmas.Bool.{ltb-false, ltb-true}
use Rattle.std.proofs.lemmas.List.{length-map, map-append, length-append}
use Rattle.std.proofs.lemmas.List.Sums.{sum_by-append, sum_by-cons}
use Rattle.vba_base.specs.Fold.{folded}
use Rattle.sheet_host.specs.declared.book.Named.{Named}
use Rattle.std.specs.Prelude.{slice_index_or, slice_set, Result, Ok, Err, IsErrAnd}
use Rattle.vba_base.specs.declared.fault.OrMemory.{OrMemory}
use Rattle.vba_base.specs.declared.fault.OrMemory.TheVariants.{NoMemory}
use Rattle.vba_values.specs.declared.fault.Bad.{Bad}
use Rattle.std.proofs.lemmas.List.{get_or-map, map-set, length-set}
use Rattle.std.proofs.Math.Seq.{map-set_same}
use Rattle.std.proofs.lemmas.List.Sums.{sum_by-set}
use Rattle.sheet_host.specs.declared.area.Area.{Area}
use Rattle.sheet_host.specs.declared.area.SheetId.{SheetId}
use Rattle.sheet_host.specs.AreaCells.{one_cell}
use Rattle.sheet_host.specs.OneCell.{is_full_for}
use Rattle.sheet_host.specs.declared.cell.CellValue.{CellValue}
use Rattle.sheet_host.specs.Sheets.{Position, SheetContent, no_content, unwritten, with_values}
use Rattle.sheet_host.proofs.Puts.{one_unwritten, stored_count}
use Rattle.sheet_host.specs.Books.{NamedSheet, Sheets, written_count, place_of_name, sheet_at, content_at, with_area, cell_limit, Puts}
use Rattle.sheet_host.specs.Shelf.{named_sheet, named_sheets, AllFolded, IsShelf}

prefix_same : (name : List ℕ) (sheets : List Named) → AllFolded sheets
    → prefix_len (λ s. not (bytes_eq s.name name)) sheets ≡ prefix_len (λ n. not (bytes_eq (folded n.name) name)) (named_sheets sheets)
prefix_same name [] h = refl
prefix_same name (s ∷ sheets) h =
    ap (λ f. cond (not (bytes_eq f name)) (1 + prefix_len (λ s. not (bytes_eq s.name name)) sheets) 0) h.0
    ∙ ap (λ n. cond (not (bytes_eq (folded s.text) name)) (1 + n) 0) (prefix_same name sheets h.1)

-- a sheet is found by its folded name
pub place_same : (name : List ℕ) (sheets : List Named) → AllFolded sheets → position (λ s. bytes_eq s.name name) sheets ≡ place_of_name (named_sheets sheets) name
place_same name sheets h =
    ap (λ n. cond (nat_lt n (length sheets)) (Some n) None) (prefix_same name sheets h)
    ∙ ap (λ k. let n = prefix_len (λ n. not (bytes_eq (folded n.name) name)) (named_sheets sheets) in cond (nat_lt n k) (Some n) None) (sym (length-map sheets named_sheet))

folded_push : (sheets : List Named) (s : Named) → AllFolded sheets → s.name ≡ folded s.text → AllFolded (sheets ++ s ∷ [])
folded_push [] s h is = (is, tt)
folded_push (first ∷ sheets) s h is = (h.0, folded_push sheets s h.1 is)

one_sheet : (s : Named) → sum_by (λ n. len n.content.cells) (named_sheet s ∷ []) ≡ len s.sheet.cells
one_sheet s = omega arith

-- a sheet more
pub shelf_push : (sheets sheets' : List Named) (s : Named) (written written' : ℕ) → IsShelf sheets written → sheets' ≡ sheets ++ s ∷ [] → s.name ≡ folded s.text
    → length sheets + 1 < 2 ^ 32 → written' ≡ written + len s.sheet.cells → IsShelf sheets' written'
shelf_push sheets sheets' s written written' was is name few sum = subst (λ all. IsShelf all written') (sym is) (record {
  few = subst (λ n. n < 2 ^ 32) (sym (length-append sheets (s ∷ []))) few;
  names = folded_push sheets s was.names name;
  count = sum ∙ ap (λ n. n + len s.sheet.cells) was.count
      ∙ ap (λ n. written_count (named_sheets sheets) + n) (sym (one_sheet s))
      ∙ sym (sum_by-append (λ n. len n.content.cells) (named_sheets sheets) (named_sheet s ∷ []))
      ∙ ap written_count (sym (map-append named_sheet sheets (s ∷ [])));
})

-- a book with an area written
pub with_count : (book : Sheets) (area : Area) (values : List CellValue) → area.sheet.0 - 1 < length book
    → written_count (with_area book area values) ≡ written_count book + unwritten (content_at book area.sheet).cells area (length values)
with_count book area values lt =
    let old = sheet_at book area.sheet in
    let new : NamedSheet = record old { content = with_values old.content area values } in
    let set_sum : written_count (with_area book area values) + len old.content.cells ≡ written_count book + len new.content.cells =
    sum_by-set (λ n. len n.content.cells) book (area.sheet.0 - 1) new (record { name = []; content = no_content }) lt in
    let more : len new.content.cells ≡ len old.content.cells + unwritten old.content.cells area (length values) = stored_count old.content.cells area values in
    omega (arith, set_sum, more)

cells_at : (sheets : List Named) (book : Sheets) (area : Area) (old : Named) → named_sheets sheets ≡ book → area.sheet.0 - 1 < length sheets
    → old ≡ slice_index_or sheets (area.sheet.0 - 1) old → (content_at book area.sheet).cells ≡ old.sheet.cells
cells_at sheets book area old same lt at =
    ap (λ (b : Sheets). (content_at b area.sheet).cells) (sym same)
    ∙ ap (λ (n : NamedSheet). n.content.cells) (get_or-map named_sheet sheets (area.sheet.0 - 1) old (record { name = []; content = no_content }) lt)
    ∙ ap (λ (n : Named). n.sheet.cells) (sym at)

-- the count of written cells grows by those of the area that weren't written
pub total : (sheets : List Named) (book : Sheets) (area : Area) (values : List CellValue) (old : Named) (written added n : ℕ) → IsShelf sheets written → named_sheets sheets ≡ book
    → 1 ≤ area.sheet.0 → area.sheet.0 ≤ length book → old ≡ slice_index_or sheets (area.sheet.0 - 1) old → added ≡ unwritten old.sheet.cells area n → length values ≡ n
    → written_count (with_area book area values) ≡ written + added
total sheets book area values old written added n was same first last at is count =
    let m : length (named_sheets sheets) ≡ length book = ap length same in
    let k : length (named_sheets sheets) ≡ length sheets = length-map sheets named_sheet in
    with_count book area values (omega (arith, first, last))
    ∙ ap (λ w. w + unwritten (content_at book area.sheet).cells area (length values)) (sym (was.count ∙ ap written_count same))
    ∙ ap (λ cells. written + unwritten cells area (length values)) (cells_at sheets book area old same (omega (arith, first, last, m, k)) at)
    ∙ ap (λ c. written + unwritten old.sheet.cells area c) count ∙ ap (λ a. written + a) (sym is)

-- the place of the sheet of an area
pub place_inside : (sheets : List Named) (book : Sheets) (area : Area) → named_sheets sheets ≡ book → 1 ≤ area.sheet.0 → area.sheet.0 ≤ length book → area.sheet.0 - 1 < length sheets
place_inside sheets book area same first last =
    let m : length (named_sheets sheets) ≡ length book = ap length same in
    let k : length (named_sheets sheets) ≡ length sheets = length-map sheets named_sheet in
    omega (arith, first, last, m, k)

one_more : (s : Named) (sheets : List Named) → written_count (named_sheets (s ∷ sheets)) ≡ len s.sheet.cells + written_count (named_sheets sheets)
one_more s sheets = sum_by-cons (λ n. len n.content.cells) (named_sheet s) (named_sheets sheets)

-- a sheet has at most as many written cells as the book
cells_of_one : (sheets : List Named) (i : ℕ) (d : Named) → i < length sheets → len (slice_index_or sheets i d).sheet.cells ≤ written_count (named_sheets sheets)
cells_of_one [] i d lt = absurd (omega arith)
cells_of_one (s ∷ sheets) zero d lt = le_sum (len s.sheet.cells) (written_count (named_sheets sheets)) (written_count (named_sheets (s ∷ sheets))) (one_more s sheets) where
  le_sum : (m n k : ℕ) → k ≡ m + n → m ≤ k
  le_sum m n k e = omega (arith, e)
cells_of_one (s ∷ sheets) (suc i) d lt =
    le_more (len s.sheet.cells) (written_count (named_sheets sheets)) (written_count (named_sheets (s ∷ sheets))) (len (slice_index_or sheets i d).sheet.cells) (one_more s sheets)
    (cells_of_one sheets i d (omega arith)) where
      le_more : (m n k j : ℕ) → k ≡ m + n → j ≤ n → j ≤ k
      le_more m n k j e h = omega (arith, e, h)

pub cells_counted : (sheets : List Named) (i written : ℕ) (old : Named) → IsShelf sheets written → i < length sheets → old ≡ slice_index_or sheets i old → len old.sheet.cells ≤ written
cells_counted sheets i written old was lt at =
    let h = cells_of_one sheets i old lt in
    let e : len old.sheet.cells ≡ len (slice_index_or sheets i old).sheet.cells = ap (λ (n : Named). len n.sheet.cells) at in
    omega (arith, h, e, was.count)

-- a sheet with another content
abbrev pub changed : Named → SheetContent → Named
changed old content = record { text = old.text; name = old.name; sheet = content }

pub same_sheets : (sheets : List Named) (book : Sheets) (i : ℕ) (old : Named) (content : SheetContent) → named_sheets sheets ≡ book → old ≡ slice_index_or sheets i old → content ≡ old.sheet
    → named_sheets (slice_set sheets i (changed old content)) ≡ book
same_sheets sheets book i old content same at is =
    map-set_same named_sheet sheets i (changed old content) old (ap (λ s. named_sheet (changed old s)) is ∙ ap named_sheet at) ∙ same

pub sheets_with_area : (sheets : List Named) (book : Sheets) (area : Area) (values : List CellValue) (old : Named) (content : SheetContent) → named_sheets sheets ≡ book
    → area.sheet.0 - 1 < length sheets → old ≡ slice_index_or sheets (area.sheet.0 - 1) old → content ≡ with_values old.sheet area values
    → named_sheets (slice_set sheets (area.sheet.0 - 1) (changed old content)) ≡ with_area book area values
sheets_with_area sheets book area values old content same lt at is =
    let i = area.sheet.0 - 1 in
    let e : named_sheet old ≡ sheet_at book area.sheet =
    ap named_sheet at ∙ sym (get_or-map named_sheet sheets i old (record { name = []; content = no_content }) lt) ∙ ap (λ (b : Sheets). sheet_at b area.sheet) same in
    map-set named_sheet sheets i (changed old content)
    ∙ ap (λ b. slice_set b i (named_sheet (changed old content))) same
    ∙ ap (λ s. slice_set book i (named_sheet (changed old s))) is
    ∙ ap (λ (n : NamedSheet). slice_set book i (record n { content = with_values n.content area values })) e

folded_set : (sheets : List Named) (i : ℕ) (s : Named) → AllFolded sheets → s.name ≡ folded s.text → AllFolded (slice_set sheets i s)
folded_set [] i s h is = tt
folded_set (first ∷ sheets) zero s h is = (is, h.1)
folded_set (first ∷ sheets) (suc i) s h is = (h.0, folded_set sheets i s h.1 is)

folded_at : (sheets : List Named) (i : ℕ) (d : Named) → AllFolded sheets → i < length sheets → (slice_index_or sheets i d).name ≡ folded (slice_index_or sheets i d).text
folded_at [] i d h lt = absurd (omega arith)
folded_at (s ∷ sheets) zero d h lt = h.0
folded_at (s ∷ sheets) (suc i) d h lt = folded_at sheets i d h.1 (omega arith)

-- a sheet changed
pub shelf_set : (sheets : List Named) (i written written' : ℕ) (old : Named) (content : SheetContent) → IsShelf sheets written → i < length sheets → old ≡ slice_index_or sheets i old
    → written' ≡ written_count (named_sheets (slice_set sheets i (changed old content))) → IsShelf (slice_set sheets i (changed old content)) written'
shelf_set sheets i written written' old content was lt at sum = record {
  few = subst (λ n. n < 2 ^ 32) (sym (length-set sheets i (changed old content))) was.few;
  names = folded_set sheets i (changed old content) was.names (subst (λ (n : Named). n.name ≡ folded n.text) (sym at) (folded_at sheets i old was.names lt));
  count = sum;
}

-- without memory nothing changed
pub puts_nothing : {X : Type 0} (r : Result X (OrMemory Bad)) (book : Sheets) (area : Area) (values : List CellValue) (new : Sheets) → IsErrAnd r (λ e. e ≡ NoMemory)
    → written_count (with_area book area values) ≤ cell_limit → new ≡ book → Puts r book area values new
puts_nothing (Ok x) book area values new is few same = absurd is
puts_nothing {X = X} (Err e) book area values new is few same = subst (λ (f : OrMemory Bad). Puts {X = X} (Err f) book area values new) (sym is) (few, same)

-- a cell more
pub full_with : (book : Sheets) (sheet : SheetId) (p : Position) (value : CellValue) → 1 ≤ sheet.0 → sheet.0 ≤ length book
    → written_count (with_area book (one_cell sheet p) (value ∷ [])) ≡ written_count book + cond (is_none (get (content_at book sheet).cells p)) 1 0
full_with book sheet p value first last =
    with_count book (one_cell sheet p) (value ∷ []) (omega (arith, first, last)) ∙ ap (λ n. written_count book + n) (one_unwritten (content_at book sheet).cells sheet p)

pub passes_limit : (book : Sheets) (sheet : SheetId) (p : Position) (value : CellValue) → 1 ≤ sheet.0 → sheet.0 ≤ length book → is_full_for book sheet p ≡ true
    → cell_limit < written_count (with_area book (one_cell sheet p) (value ∷ []))
passes_limit book sheet p value first last full =
    let lt = ltb-true 4000000 (written_count book + cond (is_none (get (content_at book sheet).cells p)) 1 0) full in
    omega (arith, lt, full_with book sheet p value first last)

pub keeps_limit : (book : Sheets) (sheet : SheetId) (p : Position) (value : CellValue) → 1 ≤ sheet.0 → sheet.0 ≤ length book → is_full_for book sheet p ≡ false
    → written_count (with_area book (one_cell sheet p) (value ∷ [])) ≤ cell_limit
keeps_limit book sheet p value first last room =
    let le = ltb-false 4000000 (written_count book + cond (is_none (get (content_at book sheet).cells p)) 1 0) room in
    omega (arith, le, full_with book sheet p value first last)
