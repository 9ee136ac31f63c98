-- The cells of an area by rows.
use Rattle.std.proofs.Common.{◌≡◌, ℕ, ◌+◌, ◌*◌, ◌-◌, ◌/◌, ◌%◌, ◌≤◌, ◌<◌, zero, suc, refl, ap, ◌∙◌, arith}
use Rattle.std.proofs.lemmas.Nat.{div-add-mod', div-mul-add, div_below, mod-mul-add, mod_below}
use Rattle.sheet_host.specs.declared.area.Area.{Area}
use Rattle.sheet_host.specs.Filled.{IsBefore, IsUpTo}
use Rattle.sheet_host.specs.Sheets.{Position, nth_cell}
use Rattle.sheet_host.specs.Smallest.{IsIn}

-- the place of a cell among those of an area
abbrev pub place_of : Area → Position → ℕ
place_of a p = (p.0 - a.top) * a.columns + (p.1 - a.left)

-- rows and columns by a place
less_row : (x y z c : ℕ) → x < z → y < c → x * c + y < z * c
less_row x y zero c h k = absurd (omega arith)
less_row zero y (suc z) c h k = omega arith
less_row (suc x) y (suc z) c h k = let more : x * c + y < z * c = less_row x y z c (omega arith) k in omega arith

pub nth_place : (a : Area) (p : Position) → IsIn a p → nth_cell a (place_of a p) ≡ p
nth_place a p is =
    let x = p.0 - a.top in
    let y = p.1 - a.left in
    let k : y < a.columns = omega arith in
    ap2 (div-mul-add x a.columns y k) (mod-mul-add x a.columns y k) where
      ap2 : place_of a p / a.columns ≡ p.0 - a.top → place_of a p % a.columns ≡ p.1 - a.left → nth_cell a (place_of a p) ≡ p
      ap2 d r =
          let row : a.top + place_of a p / a.columns ≡ p.0 = omega arith in
          let column : a.left + place_of a p % a.columns ≡ p.1 = omega arith in
          ap (λ (r : ℕ). (r, a.left + place_of a p % a.columns)) row ∙ ap (λ (k : ℕ). (p.0, k)) column

pub place_less : (a : Area) (p : Position) → IsIn a p → place_of a p < a.rows * a.columns
place_less a p is = less_row (p.0 - a.top) (p.1 - a.left) a.rows a.columns (omega arith) (omega arith)

pub nth_in : (a : Area) (j : ℕ) → j < a.rows * a.columns → 1 ≤ a.columns → IsIn a (nth_cell a j)
nth_in a j h some =
    let row : j / a.columns < a.rows = div_below j a.columns a.rows some h in
    let column : j % a.columns < a.columns = mod_below j a.columns some in
    record { below_top = omega arith; above_end = omega arith; behind_left = omega arith; before_end = omega arith }

-- places rise as cells come behind each other
pub behind_place : (a : Area) (p : Position) (j : ℕ) → IsIn a p → 1 ≤ a.columns → place_of a p < j → IsBefore p (nth_cell a j)
behind_place a p j is some h =
    let whole : j / a.columns * a.columns + j % a.columns ≡ j = div-add-mod' j a.columns in
    let column : j % a.columns < a.columns = mod_below j a.columns some in
    let row : p.0 - a.top ≤ j / a.columns = not_less (p.0 - a.top) (p.1 - a.left) (j / a.columns) (j % a.columns) a.columns column (omega arith) in
    record { row = omega arith; column = λ same. in_row (omega arith) } where
      not_less : (x y u v c : ℕ) → v < c → x * c + y < u * c + v → x ≤ u
      not_less x y u v c k h = by_order (x - u) refl where
        by_order : (d : ℕ) → d ≡ x - u → x ≤ u
        by_order zero e = omega arith
        by_order (suc d) e = let more : u * c + v < x * c = less_row u v x c (omega arith) k in omega arith

      in_row : p.0 - a.top ≡ j / a.columns → p.1 < a.left + j % a.columns
      in_row same =
          let whole : j / a.columns * a.columns + j % a.columns ≡ j = div-add-mod' j a.columns in
          let products : (p.0 - a.top) * a.columns ≡ j / a.columns * a.columns = ap (λ n. n * a.columns) same in
          omega arith

pub place_before : (a : Area) (p q : Position) → IsIn a p → IsIn a q → IsBefore p q → place_of a p < place_of a q
place_before a p q is here h = by_rows (q.0 - p.0) refl where
  by_rows : (d : ℕ) → d ≡ q.0 - p.0 → place_of a p < place_of a q
  by_rows zero e =
      let same : p.0 ≡ q.0 = omega (arith, h.row) in
      let products : (p.0 - a.top) * a.columns ≡ (q.0 - a.top) * a.columns = ap (λ n. (n - a.top) * a.columns) same in
      let column : p.1 < q.1 = h.column same in
      omega arith
  by_rows (suc d) e =
      let more : (p.0 - a.top) * a.columns + (p.1 - a.left) < (q.0 - a.top) * a.columns = less_row (p.0 - a.top) (p.1 - a.left)
      (q.0 - a.top) a.columns (omega arith) (omega arith) in
      omega arith

pub before_place : (a : Area) (q : Position) (j : ℕ) → IsIn a q → 1 ≤ a.columns → j < place_of a q → IsUpTo q (nth_cell a j) → ⊥
before_place a q j is some h up =
    let whole : j / a.columns * a.columns + j % a.columns ≡ j = div-add-mod' j a.columns in
    by_rows (j / a.columns - (q.0 - a.top)) refl where
      by_rows : (d : ℕ) → d ≡ j / a.columns - (q.0 - a.top) → ⊥
      by_rows zero e =
          let whole : j / a.columns * a.columns + j % a.columns ≡ j = div-add-mod' j a.columns in
          let same : q.0 - a.top ≡ j / a.columns = omega (arith, up.row) in
          let products : (q.0 - a.top) * a.columns ≡ j / a.columns * a.columns = ap (λ n. n * a.columns) same in
          let column : q.1 ≤ a.left + j % a.columns = up.column (omega arith) in
          omega arith
      by_rows (suc d) e =
          let whole : j / a.columns * a.columns + j % a.columns ≡ j = div-add-mod' j a.columns in
          let more : (q.0 - a.top) * a.columns + (q.1 - a.left) < j / a.columns * a.columns = less_row (q.0 - a.top) (q.1 - a.left)
          (j / a.columns) a.columns (omega arith) (omega arith) in
          omega arith
