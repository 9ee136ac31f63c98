-- Books: sheets with their names, in order.
use Rattle.std.specs.Prelude.{◌≡◌, ℕ, ◌+◌, ◌-◌, ◌≤◌, ◌<◌, List, [], length, slice_index_or, slice_set, sum_by, position, bytes_eq, Option, Some, None, if◌then◌else◌, Result, Ok, Err}
use Rattle.std.specs.FinMap.{len}
use Rattle.vba_base.specs.declared.fault.OrMemory.{OrMemory}
use Rattle.vba_base.specs.declared.fault.OrMemory.TheVariants.{Fault, NoMemory}
use Rattle.vba_base.specs.Fold.{folded}
use Rattle.vba_values.specs.declared.fault.Bad.{Bad}
use Rattle.vba_values.specs.declared.fault.Bad.TheVariants.{Raise, Outside}
use Rattle.vba_values.specs.declared.fault.OutKind.TheVariants as kind
use Rattle.sheet_host.specs.declared.area.Area.{Area}
use Rattle.sheet_host.specs.declared.area.SheetId.{SheetId}
use Rattle.sheet_host.specs.declared.cell.CellValue.{CellValue}
use Rattle.sheet_host.specs.Area.{host_error}
use Rattle.sheet_host.specs.Sheets.{SheetContent, no_content, value_at, with_values}
use Rattle.sheet_host.specs.Size.{is_inside}

-- a sheet and its name
pub record NamedSheet : Type 0 where
  pub name : List ℕ
  pub content : SheetContent

-- a book: its sheets in the order of their numbers, from 1
abbrev pub Sheets : Type 0
Sheets = List NamedSheet

-- the number is that of a sheet of the book
pub record IsSheetOf (book : Sheets) (id : SheetId) : Type 0 where
  pub first : 1 ≤ id.0
  pub last : id.0 ≤ length book

abbrev pub sheet_at : Sheets → SheetId → NamedSheet
sheet_at book id = slice_index_or book (id.0 - 1) (record { name = []; content = no_content })

abbrev pub content_at : Sheets → SheetId → SheetContent
content_at book id = (sheet_at book id).content

-- the place of the sheet whose name, folded, is this
abbrev pub place_of_name : Sheets → List ℕ → Option ℕ
place_of_name book name = position (λ n. bytes_eq (folded n.name) name) book

-- Subscript out of range
abbrev pub no_such_sheet : Bad
no_such_sheet = Raise 9

abbrev pub sheet_at_place : Option ℕ → Result SheetId Bad
sheet_at_place None = Err no_such_sheet
sheet_at_place (Some i) = Ok (record { 0 = i + 1 })

-- the sheet with a folded name
abbrev pub sheet_named : Sheets → List ℕ → Result SheetId Bad
sheet_named book name = sheet_at_place (place_of_name book name)

-- no sheet has the name, without regard to case
abbrev pub IsNewName : Sheets → List ℕ → Type 0
IsNewName book name = place_of_name book (folded name) ≡ None

-- the value of a cell; outside of the sheet there is none
abbrev pub value_in : Sheets → SheetId → ℕ → ℕ → Result CellValue Bad
value_in book id row column = if is_inside row column then Ok (value_at (content_at book id) (row, column)) else Err host_error

-- how many cells were written in all sheets
abbrev pub written_count : Sheets → ℕ
written_count book = sum_by (λ n. len n.content.cells) book

abbrev pub cell_limit : ℕ
cell_limit = 4000000

-- the book with these values written to an area
abbrev pub with_area : Sheets → Area → List CellValue → Sheets
with_area book area values =
    let old = sheet_at book area.sheet in
    slice_set book (area.sheet.0 - 1) (record old { content = with_values old.content area values })

-- the values were written; or the book would hold too many cells, or memory ran out, and then nothing changed
abbrev pub Puts : {X : Type 0} → Result X (OrMemory Bad) → Sheets → Area → List CellValue → Sheets → Type 0
Puts (Ok x) old area values new = (written_count (with_area old area values) ≤ cell_limit) × (new ≡ with_area old area values)
Puts (Err (Fault bad)) old area values new = (cell_limit < written_count (with_area old area values)) × (bad ≡ Outside kind.Cells) × (new ≡ old)
Puts (Err NoMemory) old area values new = (written_count (with_area old area values) ≤ cell_limit) × (new ≡ old)
