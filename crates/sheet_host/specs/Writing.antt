-- What a value writes to the cells of an area.
use Rattle.std.specs.Prelude.{ℕ, zero, suc, ◌+◌, ◌*◌, ◌/◌, ◌%◌, nat_le, Bool, false, ◌&&◌, if◌then◌else◌, ℤ, pos, negsuc, ◌+ℤ◌, ◌-ℤ◌, List, [], ◌∷◌, replicate, Result, Ok, Err}
use Rattle.vba_base.specs.Answer.{◌>>=◌}
use Rattle.vba_values.specs.declared.fault.Bad.{Bad}
use Rattle.vba_values.specs.declared.value.Bound.{Bound}
use Rattle.vba_values.specs.Val.{Val, Vals, no_vals, val, empty, null, missing, boolean, whole, currency, text, object, array, udt}
use Rattle.sheet_host.specs.declared.cell.CellValue.{CellValue}
use Rattle.sheet_host.specs.declared.cell.CellValue.TheVariants as cell
use Rattle.sheet_host.specs.Area.{host_error}
use Rattle.sheet_host.specs.Field.{whole_cell}
use Rattle.sheet_host.specs.Gathered.{gathered}

-- what one value writes to a cell; 1004 where no cell holds it
abbrev pub cell_of : Val → Result CellValue Bad
cell_of empty = Ok cell.Empty
cell_of null = Ok cell.Empty
cell_of missing = Err host_error
cell_of (boolean b) = Ok (cell.Boolean b)
cell_of (whole k z) = Ok (whole_cell z)
cell_of (currency count) = Ok (cell.Currency count)
cell_of (text units) = Ok (cell.Text units)
cell_of (object reference) = Err host_error
cell_of (array bounds element items) = Err host_error
cell_of (udt number fields) = Err host_error

-- what the element at a place writes, counted from 0
abbrev pub cell_at : Vals → ℕ → Result CellValue Bad
cell_at no_vals place = Err host_error
cell_at (val v vs) zero = cell_of v
cell_at (val v vs) (suc place) = cell_at vs place

-- a number, or 0 for a negative one
abbrev pub or_zero : ℤ → ℕ
or_zero (pos n) = n
or_zero (negsuc n) = 0

-- how many places a bound has
abbrev pub extent : Bound → ℕ
extent bound = or_zero (bound.high -ℤ bound.low +ℤ pos 1)

-- an array of one bound has an element for each column, and one of two bounds has one for each row and column
abbrev pub is_large_enough : List Bound → ℕ → ℕ → Bool
is_large_enough [] rows columns = false
is_large_enough (across ∷ []) rows columns = nat_le columns (extent across)
is_large_enough (down ∷ across ∷ []) rows columns = nat_le rows (extent down) && nat_le columns (extent across)
is_large_enough (down ∷ across ∷ third ∷ bounds) rows columns = false

-- the place of the element for a row and a column, all counted from 0: elements stand with the first place running fastest,
-- and an array of one bound gives each row the same ones
abbrev pub place_in : List Bound → ℕ → ℕ → ℕ
place_in [] row column = column
place_in (across ∷ []) row column = column
place_in (down ∷ across ∷ bounds) row column = row + column * extent down

-- what an array writes to the i-th cell of an area by rows, counted from 0
abbrev pub given : List Bound → Vals → ℕ → ℕ → Result CellValue Bad
given bounds items columns i = cell_at items (place_in bounds (i / columns) (i % columns))

-- what a value writes to an area by rows: an array its elements, any other value itself to each cell; 1004 for an array that is too
-- small and for what no cell holds
abbrev pub cells_of : Val → ℕ → ℕ → Result (List CellValue) Bad
cells_of (array bounds element items) rows columns =
    if is_large_enough bounds rows columns then gathered (given bounds items columns) (rows * columns) else Err host_error
cells_of v rows columns = cell_of v >>= λ filling. Ok (replicate (rows * columns) filling)
