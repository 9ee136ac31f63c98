-- Serves the code: the search for the first cell that isn't Empty.
use Rattle.std.specs.Prelude.{◌≡◌, ℕ, ◌+◌, ◌-◌, ◌≤◌, ◌<◌, nat_le, nat_lt, Bool, true, false, not, ◌&&◌, if◌then◌else◌, List, [], ◌∷◌, Option, Some, None}
use Rattle.std.specs.BTreeMap.Range.{entries_between}
use Rattle.std.specs.Ordering.{nat_cmp}
use Rattle.std.specs.declared.ops.Bound.TheVariants.{Included, Excluded}
use Rattle.sheet_host.specs.declared.filled.Search.{Search}
use Rattle.sheet_host.specs.Field.{is_empty}
use Rattle.sheet_host.specs.Filled.{IsUpTo}
use Rattle.sheet_host.specs.Pages.{Page, Slot, kept, page_of}
use Rattle.sheet_host.specs.Sheets.{Position, SheetContent, position_cmp, value_at}
use Rattle.sheet_host.specs.Size.{sheet_rows, sheet_columns}

-- the search goes over cells of the sheet
pub record IsSearch (search : Search) : Type 0 where
  pub first_row : 1 ≤ search.row
  pub last_row : search.end_row ≤ sheet_rows + 1
  pub first_column : 1 ≤ search.left
  pub last_column : search.end_column ≤ sheet_columns + 1

-- a cell that the search goes over and that isn't Empty
pub record IsFound (s : SheetContent) (search : Search) (p : Position) : Type 0 where
  pub from : IsUpTo (search.row, search.column) p
  pub above_end : p.0 < search.end_row
  pub behind_left : search.left ≤ p.1
  pub before_end : p.1 < search.end_column
  pub filled : is_empty (value_at s p) ≡ false

-- the sheet of these rows and pages
abbrev pub kept_content : List (List (List ℕ)) → List (ℕ × Page) → SheetContent
kept_content rows pages = record { rows = rows; cells = kept pages }

-- the search, with an end before another row
abbrev pub before_row : Search → ℕ → Search
before_row search end = record search { end_row = end }

-- no cell of a row from a column on and before another is filled, or this is the first
abbrev pub IsFirstColumn : SheetContent → ℕ → ℕ → ℕ → Option ℕ → Type 0
IsFirstColumn s row from end None = (c : ℕ) → c < end → from ≤ c → is_empty (value_at s (row, c)) ≡ true
IsFirstColumn s row from end (Some column) =
    (from ≤ column) × (column < end) × (is_empty (value_at s (row, column)) ≡ false) × ((c : ℕ) → c < column → from ≤ c → is_empty (value_at s (row, c)) ≡ true)

-- whether a slot holds a cell that isn't Empty
abbrev pub is_slot_filled : Slot → Bool
is_slot_filled None = false
is_slot_filled (Some value) = not (is_empty value)

-- whether a slot holds such a cell in a column of the search
abbrev pub is_wanted : Search → Position → Slot → Bool
is_wanted search p slot = is_slot_filled slot && (nat_le search.left p.1 && nat_lt p.1 search.end_column)

-- the first of these slots that does, the first in a page, and the first in pages
abbrev pub first_slot : Search → List (Position × Slot) → Option Position
first_slot search [] = None
first_slot search (slot ∷ slots) = if is_wanted search slot.0 slot.1 then Some slot.0 else first_slot search slots

abbrev pub first_in_page : Search → List (Position × Slot) → Option Position
first_in_page search slots =
    first_slot search (entries_between position_cmp (Included (search.row, search.column)) (Excluded (search.end_row, 0)) slots)

abbrev pub first_or : Option Position → Option Position → Option Position
first_or None other = other
first_or (Some p) other = Some p

abbrev pub first_among_pages : Search → List (ℕ × Page) → Option Position
first_among_pages search [] = None
first_among_pages search (page ∷ pages) = first_or (first_in_page search page.1.entries) (first_among_pages search pages)

abbrev pub first_in_pages : Search → List (ℕ × Page) → Option Position
first_in_pages search pages =
    first_among_pages search (entries_between nat_cmp (Included (page_of search.row)) (Excluded (page_of search.end_row + 1)) pages)
