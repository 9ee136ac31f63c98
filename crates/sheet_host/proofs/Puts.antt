-- Writing an area: how many cells it adds.
use Rattle.std.proofs.Common.{◌≡◌, ℕ, suc, ◌+◌, ◌*◌, ◌/◌, ◌%◌, ◌<◌, ◌≤◌, Bool, true, false, cond, List, [], ◌∷◌, length, Option, Some, None, refl, sym, ap, ap₂, ◌∙◌, arith}
use Rattle.std.specs.Prelude.{is_some, is_none}
use Rattle.std.specs.Int.{from_bool}
use Rattle.std.specs.FinMap.{get, insert, len, get-insert, len-insert}
use Rattle.std.specs.Ordering.{eq_by_cmp}
use Rattle.std.proofs.Math.Nat.{div-add-mod}
use Rattle.sheet_host.specs.declared.area.Area.{Area}
use Rattle.sheet_host.specs.declared.area.SheetId.{SheetId}
use Rattle.sheet_host.specs.declared.cell.CellValue.{CellValue}
use Rattle.sheet_host.specs.AreaCells.{one_cell}
use Rattle.sheet_host.specs.OneCell.{with_value}
use Rattle.sheet_host.specs.Sheets.{Position, SheetContent, position_cmp, Cells, nth_cell, stored, unwritten, with_values}
use Rattle.sheet_host.proofs.Kept.{not_true}
use Rattle.sheet_host.proofs.Positions.{position_total, at_same}

-- the cells of an area are all different
nth_once : (area : Area) (i j : ℕ) → nth_cell area i ≡ nth_cell area j → i ≡ j
nth_once area i j e =
    let q : i / area.columns ≡ j / area.columns = (let h : area.top + i / area.columns ≡ area.top + j / area.columns = ap (λ (p : Position). p.0) e in omega (arith, h)) in
    let r : i % area.columns ≡ j % area.columns = (let h : area.left + i % area.columns ≡ area.left + j % area.columns = ap (λ (p : Position). p.1) e in omega (arith, h)) in
    sym (div-add-mod i area.columns) ∙ ap (λ k. area.columns * k + i % area.columns) q ∙ ap (λ k. area.columns * (j / area.columns) + k) r ∙ div-add-mod j area.columns

-- how many of these cells aren't written
extra : Cells → Area → ℕ → List CellValue → ℕ
extra cells area i [] = 0
extra cells area i (value ∷ values) = cond (is_none (get cells (nth_cell area i))) 1 0 + extra cells area (i + 1) values

other_cell : (cells : Cells) (area : Area) (i j : ℕ) (value : CellValue) → i < j → get (insert cells (nth_cell area i) value) (nth_cell area j) ≡ get cells (nth_cell area j)
other_cell cells area i j value lt =
    get-insert position_total cells (nth_cell area i) value (nth_cell area j)
    ∙ ap (λ b. cond b (Some value) (get cells (nth_cell area j)))
    (not_true (eq_by_cmp position_cmp (nth_cell area j) (nth_cell area i)) (λ e. let same : j ≡ i = nth_once area j i (at_same (nth_cell area j) (nth_cell area i) e) in absurd (omega (arith, same, lt))))

extra_same : (cells cells' : Cells) (area : Area) (i : ℕ) (values : List CellValue) → ((j : ℕ) → i ≤ j → get cells' (nth_cell area j) ≡ get cells (nth_cell area j))
    → extra cells' area i values ≡ extra cells area i values
unfolding extra
extra_same cells cells' area i [] same = refl
extra_same cells cells' area i (value ∷ values) same =
    ap (λ o. cond (is_none o) 1 0 + extra cells' area (i + 1) values) (same i (omega arith))
    ∙ ap (λ n. cond (is_none (get cells (nth_cell area i))) 1 0 + n) (extra_same cells cells' area (i + 1) values (λ j le. same j (omega (arith, le))))

one_more : (o : Option CellValue) (n : ℕ) → cond (is_some o) n (n + 1) ≡ n + cond (is_none o) 1 0
one_more None n = refl
one_more (Some value) n = omega arith

stored_len : (cells : Cells) (area : Area) (i : ℕ) (values : List CellValue) → len (stored cells area i values) ≡ len cells + extra cells area i values
unfolding extra
stored_len cells area i [] = omega arith
stored_len cells area i (value ∷ values) =
    let first : len (insert cells (nth_cell area i) value) ≡ len cells + cond (is_none (get cells (nth_cell area i))) 1 0 =
    len-insert position_total cells (nth_cell area i) value ∙ one_more (get cells (nth_cell area i)) (len cells) in
    let rest : extra (insert cells (nth_cell area i) value) area (i + 1) values ≡ extra cells area (i + 1) values =
    extra_same cells (insert cells (nth_cell area i) value) area (i + 1) values (λ j le. other_cell cells area i j value (omega (arith, le))) in
    stored_len (insert cells (nth_cell area i) value) area (i + 1) values
    ∙ ap (λ n. n + extra (insert cells (nth_cell area i) value) area (i + 1) values) first
    ∙ ap (λ n. (len cells + cond (is_none (get cells (nth_cell area i))) 1 0) + n) rest
    ∙ together (len cells) (cond (is_none (get cells (nth_cell area i))) 1 0) (extra cells area (i + 1) values) where
      together : (a b c : ℕ) → (a + b) + c ≡ a + (b + c)
      together a b c = omega arith

extra_unwritten : (cells : Cells) (area : Area) (i : ℕ) (values : List CellValue) → unwritten cells area i + extra cells area i values ≡ unwritten cells area (i + length values)
unfolding extra
extra_unwritten cells area i [] = let e : i + 0 ≡ i = omega arith in ap (λ n. n) (plus_zero (unwritten cells area i)) ∙ sym (ap (unwritten cells area) e) where
  plus_zero : (n : ℕ) → n + 0 ≡ n
  plus_zero n = omega arith
extra_unwritten cells area i (value ∷ values) =
    let e : (i + 1) + length values ≡ i + suc (length values) = omega arith in
    let s : suc i ≡ i + 1 = omega arith in
    together (unwritten cells area i) (cond (is_none (get cells (nth_cell area i))) 1 0) (extra cells area (i + 1) values)
    ∙ ap (λ n. unwritten cells area n + extra cells area (i + 1) values) s
    ∙ extra_unwritten cells area (i + 1) values ∙ ap (unwritten cells area) e where
      together : (a b c : ℕ) → a + (b + c) ≡ (a + b) + c
      together a b c = omega arith

pub stored_count : (cells : Cells) (area : Area) (values : List CellValue) → len (stored cells area 0 values) ≡ len cells + unwritten cells area (length values)
stored_count cells area values =
    let e : 0 + length values ≡ length values = omega arith in
    stored_len cells area 0 values ∙ ap (λ n. len cells + n) (zero_plus (extra cells area 0 values) ∙ extra_unwritten cells area 0 values ∙ ap (unwritten cells area) e) where
      zero_plus : (n : ℕ) → n ≡ 0 + n
      zero_plus n = omega arith

pub nil_of : (values : List CellValue) → length values ≡ 0 → values ≡ []
nil_of [] e = refl
nil_of (value ∷ values) e = absurd (omega (arith, e))

-- the only cell of an area of one cell
pub nth_first : (sheet : SheetId) (p : Position) → nth_cell (one_cell sheet p) 0 ≡ p
nth_first sheet p =
    let row : p.0 + 0 / 1 ≡ p.0 = omega arith in
    let column : p.1 + 0 % 1 ≡ p.1 = omega arith in
    ap₂ (λ (a b : ℕ). at a b) row column where
      at : ℕ → ℕ → Position
      at a b = (a, b)

-- one cell written
pub one_len : (cells cells' : Cells) (p : Position) (value : CellValue) (added : Bool) (n : ℕ) → cells' ≡ insert cells p value → added ≡ is_none (get cells p) → n ≡ cond added 1 0
    → len cells + n ≡ len cells'
one_len cells cells' p value added n is added_is n_is =
    ap (λ k. len cells + k) (n_is ∙ ap (λ b. cond b 1 0) added_is)
    ∙ sym (len-insert position_total cells p value ∙ one_more (get cells p) (len cells)) ∙ ap len (sym is)

pub one_unwritten : (cells : Cells) (sheet : SheetId) (p : Position) → unwritten cells (one_cell sheet p) 1 ≡ cond (is_none (get cells p)) 1 0
one_unwritten cells sheet p = zero_plus (cond (is_none (get cells (nth_cell (one_cell sheet p) 0))) 1 0) ∙ ap (λ q. cond (is_none (get cells q)) 1 0) (nth_first sheet p) where
  zero_plus : (n : ℕ) → 0 + n ≡ n
  zero_plus n = omega arith

pub one_value : (s : SheetContent) (sheet : SheetId) (p : Position) (value : CellValue) → with_value s p value ≡ with_values s (one_cell sheet p) (value ∷ [])
one_value s sheet p value = ap (λ q. with_value s q value) (sym (nth_first sheet p))

-- a truth as a number
pub one_if : (n : ℕ) (b : Bool) → n ≡ from_bool b → n ≡ cond b 1 0
one_if n true h = h
one_if n false h = h
