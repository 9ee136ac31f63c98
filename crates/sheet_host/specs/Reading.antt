-- The value of an area.
use Rattle.std.specs.Prelude.{ℕ, ◌+◌, ◌*◌, ◌/◌, ◌%◌, nat_lt, ◌==◌, ◌&&◌, if◌then◌else◌, pos, [], ◌∷◌, Result, Ok, Err}
use Rattle.vba_values.specs.declared.fault.Bad.{Bad}
use Rattle.vba_values.specs.declared.fault.Bad.TheVariants.{Outside}
use Rattle.vba_values.specs.declared.fault.OutKind.TheVariants.{Elements}
use Rattle.vba_values.specs.declared.types.WholeKind.TheVariants as kind
use Rattle.vba_values.specs.declared.value.Bound.{Bound}
use Rattle.vba_values.specs.Types.{variant}
use Rattle.vba_values.specs.Val.{Val, vals_of, empty, boolean, whole, currency, text, array}
use Rattle.sheet_host.specs.declared.area.Area.{Area}
use Rattle.sheet_host.specs.declared.area.SheetId.{SheetId}
use Rattle.sheet_host.specs.declared.cell.CellValue.{CellValue}
use Rattle.sheet_host.specs.declared.cell.CellValue.TheVariants as cell
use Rattle.sheet_host.specs.Books.{Sheets, content_at}
use Rattle.sheet_host.specs.Gathered.{firsts}
use Rattle.sheet_host.specs.Sheets.{value_at}

-- what a cell holds, as a value
abbrev pub value_of_cell : CellValue → Val
value_of_cell cell.Empty = empty
value_of_cell (cell.Boolean b) = boolean b
value_of_cell (cell.Long z) = whole kind.Long z
value_of_cell (cell.LongLong z) = whole kind.LongLong z
value_of_cell (cell.Currency count) = currency count
value_of_cell (cell.Text units) = text units

-- the value of a cell of a book
abbrev pub cell_value : Sheets → SheetId → ℕ → ℕ → Val
cell_value book sheet row column = value_of_cell (value_at (content_at book sheet) (row, column))

-- the i-th element of the array that an area is, counted from 0, with the row running fastest
abbrev pub element_of : Sheets → Area → ℕ → Val
element_of book area i = cell_value book area.sheet (area.top + i % area.rows) (area.left + i / area.rows)

-- from 1 to a number
abbrev pub from_one : ℕ → Bound
from_one n = record { low = pos 1; high = pos n }

abbrev pub element_limit : ℕ
element_limit = 1048576

-- more elements than an array may have: the run stops
abbrev pub too_many_elements : Bad
too_many_elements = Outside Elements

-- the array of the values of an area: its bounds are 1 to the rows and 1 to the columns
abbrev pub array_of : Sheets → Area → Val
array_of book area =
    array (from_one area.rows ∷ from_one area.columns ∷ []) variant (vals_of (firsts (element_of book area) (area.rows * area.columns)))

-- the value of an area: of one cell its value, of more an array of their values
abbrev pub area_value : Sheets → Area → Result Val Bad
area_value book area =
    if area.rows == 1 && area.columns == 1 then Ok (cell_value book area.sheet area.top area.left)
    else if nat_lt element_limit (area.rows * area.columns) then Err too_many_elements
    else Ok (array_of book area)
