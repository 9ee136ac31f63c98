-- The cells of areas as areas, and the areas that hold two others.
use Rattle.std.specs.Prelude.{◌+◌, ◌-◌, ◌==◌, min, max, if◌then◌else◌, ℤ, pos, ◌+ℤ◌, ◌-ℤ◌, Result, Ok, Err}
use Rattle.vba_values.specs.declared.fault.Bad.{Bad}
use Rattle.sheet_host.specs.declared.area.Area.{Area}
use Rattle.sheet_host.specs.declared.area.SheetId.{SheetId}
use Rattle.sheet_host.specs.Area.{area_of_spans, host_error, span_of}
use Rattle.sheet_host.specs.Sheets.{Position}
use Rattle.sheet_host.specs.Size.{sheet_rows, sheet_columns}

-- the area of one cell
abbrev pub one_cell : SheetId → Position → Area
one_cell sheet p = record { sheet = sheet; top = p.0; left = p.1; rows = 1; columns = 1 }

-- the cell in a row and a column of an area, both counted from 1 at its first cell; 1004 where the sheet hasn't it
abbrev pub cell_of_area : Area → ℤ → ℤ → Result Area Bad
cell_of_area area row column = area_of_spans area.sheet
    (span_of (pos area.top +ℤ row -ℤ pos 1) (pos 1) sheet_rows)
    (span_of (pos area.left +ℤ column -ℤ pos 1) (pos 1) sheet_columns)

-- the area from the least first row and column of two areas to their greatest last ones
abbrev pub joined_area : Area → Area → Area
joined_area a b =
    let top = min a.top b.top in
    let left = min a.left b.left in
    record {
      sheet = a.sheet;
      top = top;
      left = left;
      rows = max (a.top + a.rows) (b.top + b.rows) - top;
      columns = max (a.left + a.columns) (b.left + b.columns) - left;
    }

-- the same of two areas of one sheet; 1004 where their sheets differ
abbrev pub area_around : Area → Area → Result Area Bad
area_around a b = if a.sheet.0 == b.sheet.0 then Ok (joined_area a b) else Err host_error
