-- The smallest area that holds two others.
use Rattle.std.proofs.Common.{◌≡◌, ℕ, ◌+◌, ◌-◌, arith}
use Rattle.std.specs.Prelude.{min, max}
use Rattle.sheet_host.specs.declared.area.Area.{Area}
use Rattle.sheet_host.specs.Sheets.{Position}
use Rattle.sheet_host.specs.Size.{IsAreaInside}
use Rattle.sheet_host.specs.Smallest.{IsIn, IsPartOf}

-- the first cell of an area lies in it, and so does the last
first_in : (area : Area) → IsAreaInside area → IsIn area (area.top, area.left)
first_in area inside = record {
  below_top = omega arith;
  above_end = omega (arith, inside.some_row);
  behind_left = omega arith;
  before_end = omega (arith, inside.some_column);
}

last_in : (area : Area) → IsAreaInside area → IsIn area (area.top + area.rows - 1, area.left + area.columns - 1)
last_in area inside = record {
  below_top = omega (arith, inside.some_row);
  above_end = omega (arith, inside.some_row);
  behind_left = omega (arith, inside.some_column);
  before_end = omega (arith, inside.some_column);
}

pub smallest_joined : (a b other : Area) (top left bottom right : ℕ) → IsAreaInside a → IsAreaInside b → top ≡ min a.top b.top → left ≡ min a.left b.left
    → bottom ≡ max (a.top + a.rows) (b.top + b.rows) → right ≡ max (a.left + a.columns) (b.left + b.columns) → IsPartOf a other → IsPartOf b other
    → IsPartOf (record { sheet = a.sheet; top = top; left = left; rows = bottom - top; columns = right - left }) other
smallest_joined a b other top left bottom right a_inside b_inside top_is left_is bottom_is right_is a_part b_part p is =
    let a_first = a_part (a.top, a.left) (first_in a a_inside) in
    let a_last = a_part (a.top + a.rows - 1, a.left + a.columns - 1) (last_in a a_inside) in
    let b_first = b_part (b.top, b.left) (first_in b b_inside) in
    let b_last = b_part (b.top + b.rows - 1, b.left + b.columns - 1) (last_in b b_inside) in
    record {
      below_top = omega (arith, is.below_top, top_is, a_first.below_top, b_first.below_top);
      above_end = omega (arith, is.below_top, is.above_end, bottom_is, a_last.above_end, b_last.above_end);
      behind_left = omega (arith, is.behind_left, left_is, a_first.behind_left, b_first.behind_left);
      before_end = omega (arith, is.behind_left, is.before_end, right_is, a_last.before_end, b_last.before_end);
    }
