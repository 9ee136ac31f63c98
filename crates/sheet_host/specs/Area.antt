-- Areas of a sheet.
use Rattle.std.specs.Prelude.{ℕ, ◌+◌, ◌-◌, nat_le, Bool, ◌&&◌, if◌then◌else◌, ℤ, pos, ◌+ℤ◌, Option, Some, None, Result, Ok, Err}
use Rattle.vba_values.specs.declared.fault.Bad.{Bad}
use Rattle.vba_values.specs.declared.fault.Bad.TheVariants.{Raise}
use Rattle.sheet_host.specs.declared.area.Area.{Area}
use Rattle.sheet_host.specs.declared.area.SheetId.{SheetId}
use Rattle.sheet_host.specs.declared.area.Span.{Span}
use Rattle.sheet_host.specs.Size.{sheet_rows, sheet_columns}

-- what the host raises: Application-defined or object-defined error
abbrev pub host_error : Bad
host_error = Raise 1004

-- rows or columns, of which there is at least one, all stand between 1 and the last of the sheet
abbrev pub is_within : ℕ → Span → Bool
is_within last span = nat_le 1 span.first && nat_le 1 span.count && nat_le (span.first + span.count) (last + 1)

-- the last row and the last column
abbrev pub bottom : Area → ℕ
bottom area = area.top + area.rows - 1

abbrev pub right : Area → ℕ
right area = area.left + area.columns - 1

-- so many rows or columns from this one on, where they all stand between 1 and the last
abbrev pub span_of : ℤ → ℤ → ℕ → Option Span
span_of (pos first) (pos count) last =
    let span : Span = record { first = first; count = count } in if is_within last span then Some span else None
span_of first count last = None

-- the area of these rows and columns; 1004 where some aren't in the sheet
abbrev pub area_of_spans : SheetId → Option Span → Option Span → Result Area Bad
area_of_spans sheet (Some rows) (Some columns) =
    Ok (record { sheet = sheet; top = rows.first; left = columns.first; rows = rows.count; columns = columns.count })
area_of_spans sheet rows columns = Err host_error

-- the area of so many rows and columns, so many rows down and columns to the right
abbrev pub offset_of : Area → ℤ → ℤ → Result Area Bad
offset_of area rows columns = area_of_spans area.sheet
    (span_of (pos area.top +ℤ rows) (pos area.rows) sheet_rows)
    (span_of (pos area.left +ℤ columns) (pos area.columns) sheet_columns)

-- the area with the same first cell and so many rows and columns
abbrev pub resized : Area → ℤ → ℤ → Result Area Bad
resized area rows columns = area_of_spans area.sheet
    (span_of (pos area.top) rows sheet_rows)
    (span_of (pos area.left) columns sheet_columns)
