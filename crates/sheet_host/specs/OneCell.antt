-- One cell written.
use Rattle.std.specs.Prelude.{◌≡◌, ◌+◌, nat_lt, Bool, true, false, if◌then◌else◌, List, Option, Some, None, is_none}
use Rattle.std.specs.FinMap.{get, insert}
use Rattle.std.specs.BTreeMap.{is_at}
use Rattle.sheet_host.specs.declared.area.SheetId.{SheetId}
use Rattle.sheet_host.specs.declared.cell.CellValue.{CellValue}
use Rattle.sheet_host.specs.Books.{Sheets, cell_limit, content_at, written_count}
use Rattle.sheet_host.specs.Pages.{Slot, slot_in}
use Rattle.sheet_host.specs.Sheets.{Position, SheetContent, position_cmp}

-- the sheet with a value written to a cell
abbrev pub with_value : SheetContent → Position → CellValue → SheetContent
with_value s p value = record s { cells = insert s.cells p value }

-- a book would have too many written cells with one more there
abbrev pub is_full_for : Sheets → SheetId → Position → Bool
is_full_for book sheet p = nat_lt cell_limit (written_count book + (if is_none (get (content_at book sheet).cells p) then 1 else 0))

-- serves the code: nothing is written in a slot
abbrev pub is_slot_unwritten : Option Slot → Bool
is_slot_unwritten None = true
is_slot_unwritten (Some None) = true
is_slot_unwritten (Some (Some value)) = false

-- serves the code: the slots have this value at a position, and else what they had
abbrev pub WritesSlot : List (Position × Slot) → List (Position × Slot) → Position → CellValue → Type 0
WritesSlot old new p value = (q : Position) → slot_in new q ≡ (if is_at (position_cmp p) q then Some (Some value) else slot_in old q)
