-- The cells of an area that aren't Empty, by rows.
use Rattle.std.specs.Prelude.{◌≡◌, ◌≤◌, ◌<◌, false, Option, Some, None}
use Rattle.sheet_host.specs.declared.area.Area.{Area}
use Rattle.sheet_host.specs.Field.{is_empty}
use Rattle.sheet_host.specs.Sheets.{Position, SheetContent, value_at}
use Rattle.sheet_host.specs.Smallest.{IsIn}

-- the first cell comes before the second by rows
pub record IsBefore (p q : Position) : Type 0 where
  pub row : p.0 ≤ q.0
  pub column : p.0 ≡ q.0 → p.1 < q.1

-- the first cell is the second or comes before it
pub record IsUpTo (p q : Position) : Type 0 where
  pub row : p.0 ≤ q.0
  pub column : p.0 ≡ q.0 → p.1 ≤ q.1

-- the cell comes behind the given one, if one is given
abbrev pub IsBehind : Option Position → Position → Type 0
IsBehind None q = Unit {0}
IsBehind (Some p) q = IsBefore p q

-- a cell of the area, behind the given one, that isn't Empty
pub record IsFilledBehind (s : SheetContent) (area : Area) (after : Option Position) (p : Position) : Type 0 where
  pub inside : IsIn area p
  pub behind : IsBehind after p
  pub filled : is_empty (value_at s p) ≡ false

-- the first by rows of the cells with a property, or there is none
abbrev pub IsFirst : (Position → Type 0) → Option Position → Type 0
IsFirst P None = (p : Position) → P p → ⊥
IsFirst P (Some q) = P q × ((p : Position) → P p → IsUpTo q p)
