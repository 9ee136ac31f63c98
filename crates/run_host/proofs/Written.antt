-- What is put to cells.
use Rattle.std.proofs.Common.{◌≡◌, ℕ, ◌+◌, ◌*◌, ◌-◌, ◌≤◌, ◌<◌, zero, suc, get_or, List, [], ◌∷◌, ◌++◌, length, true, false, refl, sym, ap, ◌∙◌, append-nil, append_assoc, length-append, arith}
use Rattle.std.specs.Prelude.{nat_lt, take, replicate, Bool, if◌then◌else◌, Result, Ok, Err}
use Rattle.std.proofs.lemmas.List.{length-replicate}
use Rattle.std.proofs.Math.ListN.{length-set}
use Rattle.vba_base.specs.Answer.{◌>>=◌}
use Rattle.vba_values.specs.declared.fault.Bad.{Bad}
use Rattle.vba_values.specs.declared.fault.Bad.TheVariants.{Outside}
use Rattle.vba_values.specs.declared.fault.OutKind.TheVariants as limit
use Rattle.vba_values.specs.declared.value.Bound.{Bound}
use Rattle.vba_values.specs.Val.{Vals, Val, empty, null, missing, boolean, whole, currency, text, object, array, udt}
use Rattle.sheet_host.specs.declared.area.Area.{Area}
use Rattle.sheet_host.specs.declared.area.SheetId.{SheetId}
use Rattle.sheet_host.specs.declared.cell.CellValue.{CellValue}
use Rattle.sheet_host.specs.Books.{IsSheetOf, cell_limit, with_area, written_count}
use Rattle.sheet_host.specs.Sheets.{nth_cell}
use Rattle.sheet_host.specs.Area.{host_error}
use Rattle.sheet_host.specs.AreaCells.{one_cell}
use Rattle.sheet_host.specs.Gathered.{gathered}
use Rattle.sheet_host.specs.Writing.{cell_of, cells_of, given, is_large_enough}
use Rattle.vba_meaning.specs.Memory.{Memory, outside}
use Rattle.vba_meaning.specs.Effects.{Event, Effect, Fine, Out, Cell, answered}
use Rattle.vba_meaning.specs.Host.{cell_events, cells_put}
use Rattle.run_host.specs.Members.{is_array}
use Rattle.run_host.specs.Tells.{TellsThen, behind_events}

not_lt : (a b : ℕ) → b ≤ a → nat_lt a b ≡ false
not_lt a b h = grind arith

is_lt : (a b : ℕ) → a < b → nat_lt a b ≡ true
is_lt a b h = grind arith

-- the cells are written, and each is told
pub put_done : (old new : List Event) (a : Area) (cs : List CellValue) (m n : Memory) → written_count (with_area m.book a cs) ≤ cell_limit
    → new ≡ old ++ cell_events a 0 cs → n ≡ record m { book = with_area m.book a cs } → TellsThen old new (cells_put a cs m) (Fine tt n)
put_done old new a cs m n few told is = rw (not_lt cell_limit (written_count (with_area m.book a cs)) few, told, is) (record {
  told = ap (λ es. old ++ es) (sym (append-nil (cell_events a 0 cs)));
  behind = refl;
})

-- too many are refused, and nothing is told
pub put_refused : (old new : List Event) (a : Area) (cs : List CellValue) (bad : Bad) (m n : Memory)
    → cell_limit < written_count (with_area m.book a cs)
    → bad ≡ Outside limit.Cells → new ≡ old → n ≡ m → TellsThen old new (cells_put a cs m) (answered (Err bad) n)
put_refused old new a cs bad m n many is told same = rw (is_lt cell_limit (written_count (with_area m.book a cs)) many, is, told, same) (record {
  told = sym (append-nil old);
  behind = refl;
})

-- one cell takes what one value writes
pub one_of_cells : (w : Val) (rows columns : ℕ) → is_array w ≡ false → rows ≡ 1 → columns ≡ 1
    → cells_of w rows columns ≡ cell_of w >>= (λ c. Ok (c ∷ []))
one_of_cells empty rows columns h r c = rw (r, c) refl
one_of_cells null rows columns h r c = rw (r, c) refl
one_of_cells missing rows columns h r c = refl
one_of_cells (boolean b) rows columns h r c = rw (r, c) refl
one_of_cells (whole k z) rows columns h r c = rw (r, c) refl
one_of_cells (currency n) rows columns h r c = rw (r, c) refl
one_of_cells (text t) rows columns h r c = rw (r, c) refl
one_of_cells (object o) rows columns h r c = refl
one_of_cells (array b e i) rows columns h r c = cc
one_of_cells (udt n f) rows columns h r c = refl

-- one event more
pub events_more : (a : Area) (k i : ℕ) (cs : List CellValue) (d : CellValue) → i < length cs
    → cell_events a k (take (i + 1) cs) ≡ cell_events a k (take i cs) ++ Cell a.sheet.0 (nth_cell a (k + i)).0 (nth_cell a (k + i)).1
    (get_or cs i d) ∷ []
events_more a k i [] d h = absurd (omega arith)
events_more a k zero (c ∷ cs) d h = let same : k + 0 ≡ k = omega arith in rw same refl
events_more a k (suc i) (c ∷ cs) d h =
    let more : suc k + i ≡ k + suc i = omega arith in
    let next : take (suc i + 1) (c ∷ cs) ≡ c ∷ take (i + 1) cs = ap (λ (n : ℕ). take n (c ∷ cs)) (add-suc_one i) in
    rw (next) (ap (λ es. Cell a.sheet.0 (nth_cell a k).0 (nth_cell a k).1 c ∷ es) (events_more a (suc k) i cs d (omega arith)
    ∙ ap (λ (n : ℕ). cell_events a (suc k) (take i cs) ++ Cell a.sheet.0 (nth_cell a n).0 (nth_cell a n).1 (get_or cs i d) ∷ []) more)) where
      add-suc_one : (n : ℕ) → suc n + 1 ≡ suc (n + 1)
      add-suc_one n = omega arith

-- how many cells there are
gathered_last : {A E : Type 0} (r : Result (List A) E) (s : Result A E) (n : ℕ) (xs : List A) → ((ys : List A) → r ≡ Ok ys → length ys ≡ n)
    → (r >>= λ before. s >>= λ last. Ok (before ++ last ∷ [])) ≡ Ok xs → length xs ≡ suc n
gathered_last (Err e) s n xs each is = cc
gathered_last (Ok ys) (Err e) n xs each is = cc
gathered_last (Ok ys) (Ok y) n xs each is =
    let same : ys ++ y ∷ [] ≡ xs = cc in
    let count : length ys ≡ n = each ys refl in
    rw (← same) (omega (arith, length-append ys (y ∷ [])))

gathered_count : {A E : Type 0} (at : ℕ → Result A E) (n : ℕ) (xs : List A) → gathered at n ≡ Ok xs → length xs ≡ n
gathered_count at zero [] is = refl
gathered_count at zero (x ∷ xs) is = cc
gathered_count at (suc n) xs is = gathered_last (gathered at n) (at n) n xs (λ ys e. gathered_count at n ys e) is

filled_count : (r : Result CellValue Bad) (n : ℕ) (xs : List CellValue) → (r >>= λ c. Ok (replicate n c)) ≡ Ok xs → length xs ≡ n
filled_count (Err e) n xs is = cc
filled_count (Ok c) n xs is = let same : replicate n c ≡ xs = cc in rw (← same) (length-replicate n c)

array_count : (large : Bool) (bounds : List Bound) (items : Vals) (rows columns : ℕ) (xs : List CellValue) (bad : Bad)
    → (if large then gathered (given bounds items columns) (rows * columns) else Err bad) ≡ Ok xs → length xs ≡ rows * columns
array_count true bounds items rows columns xs bad is = gathered_count (given bounds items columns) (rows * columns) xs is
array_count false bounds items rows columns xs bad is = cc

pub cells_count : (w : Val) (rows columns : ℕ) (xs : List CellValue) → cells_of w rows columns ≡ Ok xs → length xs ≡ rows * columns
cells_count empty rows columns xs is = filled_count (cell_of empty) (rows * columns) xs is
cells_count null rows columns xs is = filled_count (cell_of null) (rows * columns) xs is
cells_count missing rows columns xs is = filled_count (cell_of missing) (rows * columns) xs is
cells_count (boolean b) rows columns xs is = filled_count (cell_of (boolean b)) (rows * columns) xs is
cells_count (whole k z) rows columns xs is = filled_count (cell_of (whole k z)) (rows * columns) xs is
cells_count (currency n) rows columns xs is = filled_count (cell_of (currency n)) (rows * columns) xs is
cells_count (text t) rows columns xs is = filled_count (cell_of (text t)) (rows * columns) xs is
cells_count (object o) rows columns xs is = filled_count (cell_of (object o)) (rows * columns) xs is
cells_count (array b e i) rows columns xs is = array_count (is_large_enough b rows columns) b i rows columns xs host_error is
cells_count (udt n f) rows columns xs is = filled_count (cell_of (udt n f)) (rows * columns) xs is

pub told_more : (old mid new : List Event) (a : Area) (i : ℕ) (cs : List CellValue) (d v : CellValue) (place : Area) → i < length cs
    → mid ≡ old ++ cell_events a 0 (take i cs)
    → place ≡ one_cell a.sheet
    (nth_cell a i) → v ≡ d → d ≡ get_or cs i d → new ≡ mid ++ Cell place.sheet.0 place.top place.left v ∷ [] → new ≡ old ++ cell_events a 0 (take
    (i + 1) cs)
told_more old mid new a i cs d v place h first at same is last =
    let from : 0 + i ≡ i = omega arith in
    let event : Cell a.sheet.0 (nth_cell a (0 + i)).0 (nth_cell a (0 + i)).1 (get_or cs i d) ≡ Cell place.sheet.0 place.top place.left v = rw
    (from, at, same, ← is) refl in
    last ∙ ap (λ es. es ++ Cell place.sheet.0 place.top place.left v ∷ []) first ∙ append_assoc old (cell_events a 0 (take i cs))
    (Cell place.sheet.0 place.top place.left v ∷ [])
    ∙ ap (λ es. old ++ es) (sym (events_more a 0 i cs d h ∙ ap (λ (e : Event). cell_events a 0 (take i cs) ++ e ∷ []) event))

-- the book keeps its sheets
pub put_keeps : (a : Area) (cs : List CellValue) (m n : Memory) (s : SheetId) → behind_events (cells_put a cs m) ≡ Fine tt n → IsSheetOf m.book s
    → IsSheetOf n.book s
put_keeps a cs m n s is there = by_limit (nat_lt cell_limit (written_count (with_area m.book a cs))) refl where
  by_limit : (b : Bool) → nat_lt cell_limit (written_count (with_area m.book a cs)) ≡ b → IsSheetOf n.book s
  by_limit true e = absurd (differ (rw e at is)) where
    differ : ◌≡◌ {A = Effect (Unit {0})} (Out (outside limit.Cells) m) (Fine tt n) → ⊥
    differ h = cc
  by_limit false e = kept (rw e at is) where
    kept : ◌≡◌ {A = Effect (Unit {0})} (Fine tt (record m { book = with_area m.book a cs })) (Fine tt n) → IsSheetOf n.book s
    kept h =
        let same : record m { book = with_area m.book a cs } ≡ n = cc in
        let count : length (with_area m.book a cs) ≡ length m.book = length-set m.book (a.sheet.0 - 1) _ in
        rw (← same) (record { first = there.first; last = omega (arith, there.last) })
