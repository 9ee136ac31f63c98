-- The cells of a sheet that aren't Empty, and the areas that hold them.
use Rattle.std.specs.Prelude.{◌≡◌, ◌+◌, ◌≤◌, ◌<◌, false, is_some, IsTrue}
use Rattle.std.specs.FinMap.{get}
use Rattle.sheet_host.specs.declared.area.Area.{Area}
use Rattle.sheet_host.specs.declared.area.SheetId.{SheetId}
use Rattle.sheet_host.specs.Field.{is_empty}
use Rattle.sheet_host.specs.Sheets.{Position, SheetContent, value_at}

-- a cell that isn't Empty
pub record IsFilled (s : SheetContent) (p : Position) : Type 0 where
  pub first_row : 1 ≤ p.0
  pub first_column : 1 ≤ p.1
  pub filled : is_empty (value_at s p) ≡ false

-- the cell lies in the area
pub record IsIn (area : Area) (p : Position) : Type 0 where
  pub below_top : area.top ≤ p.0
  pub above_end : p.0 < area.top + area.rows
  pub behind_left : area.left ≤ p.1
  pub before_end : p.1 < area.left + area.columns

-- each cell that isn't Empty lies in the area
abbrev pub HoldsAllFilled : SheetContent → Area → Type 0
HoldsAllFilled s area = (p : Position) → IsFilled s p → IsIn area p

-- each cell of one area lies in the other
abbrev pub IsPartOf : Area → Area → Type 0
IsPartOf part area = (p : Position) → IsIn part p → IsIn area p

-- the rows and columns of written cells count from 1
abbrev pub CountFromOne : SheetContent → Type 0
CountFromOne s = (p : Position) → IsTrue (is_some (get s.cells p)) → (1 ≤ p.0) × (1 ≤ p.1)

-- the area of the first cell of a sheet
abbrev pub first_cell : SheetId → Area
first_cell sheet = record { sheet = sheet; top = 1; left = 1; rows = 1; columns = 1 }
