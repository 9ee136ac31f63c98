-- Lists made place by place, and the elements of arrays.
use Rattle.std.proofs.Common.{◌≡◌, ℕ, zero, suc, ◌+◌, ◌*◌, ◌<◌, ◌≤◌, List, [], ◌∷◌, ◌++◌, length, map, get_or, Result, Ok, Err, refl, sym, ap, ◌∙◌, arith, ◌-◌, ◌/◌, ◌%◌, add-one, zero-add, suc-add}
use Rattle.std.proofs.Math.Nat.{div-lt_iff_lt-mul}
use Rattle.vba_base.specs.Answer.{Fails}
use Rattle.vba_base.specs.declared.fault.OrMemory.{OrMemory}
use Rattle.vba_base.specs.declared.fault.OrMemory.TheVariants.{Fault, NoMemory}
use Rattle.vba_values.specs.declared.value.Value.{Value}
use Rattle.vba_values.specs.Val.{Val}
use Rattle.vba_values.specs.View.{view, views}
use Rattle.std.proofs.lemmas.Grind.{common_steps}
use Rattle.sheet_host.specs.declared.area.Area.{Area}
use Rattle.sheet_host.specs.Size.{IsAreaInside, IsInside}
use Rattle.sheet_host.specs.Area.{host_error}
use Rattle.sheet_host.specs.Gathered.{gathered, firsts}
use Rattle.sheet_host.specs.Writing.{cell_of, cell_at}

-- one place more
pub gathered_more : {A E : Type 0} (at : ℕ → Result A E) (n : ℕ) (before : List A) (last : A) → gathered at n ≡ Ok before → at n ≡ Ok last → gathered at (n + 1) ≡ Ok (before ++ last ∷ [])
gathered_more at n before last e f = rw (add-one, e, f) refl

-- a place without a thing
pub gathered_stops : {A E : Type 0} (at : ℕ → Result A E) (i : ℕ) (before : List A) (fault : E) → gathered at i ≡ Ok before → at i ≡ Err fault → gathered at (suc i) ≡ Err fault
gathered_stops at i before fault e f = rw (e, f) refl

later : {A E : Type 0} (at : ℕ → Result A E) (i k : ℕ) (fault : E) → gathered at (suc i) ≡ Err fault → gathered at (k + suc i) ≡ Err fault
later at i zero fault e = rw zero-add e
later at i (suc k) fault e = rw (suc-add, later at i k fault e) refl

pub gathered_fails : {A E : Type 0} (at : ℕ → Result A E) (i n : ℕ) (before : List A) (fault : E) → gathered at i ≡ Ok before → at i ≡ Err fault → i < n → gathered at n ≡ Err fault
gathered_fails at i n before fault e f h =
    let same : n - suc i + suc i ≡ n = omega arith in
    ap (gathered at) (sym same) ∙ later at i (n - suc i) fault (gathered_stops at i before fault e f)

pub gathered_faults : {A E : Type 0} (at : ℕ → Result A E) (i n : ℕ) (before : List A) (fault : OrMemory E) → gathered at i ≡ Ok before → Fails fault (at i) → i < n → Fails fault (gathered at n)
gathered_faults at i n before NoMemory e f h = tt
gathered_faults at i n before (Fault fault) e f h = gathered_fails at i n before fault e f h

-- the element at a place that the array has
pub element_at : (items : List Value) (i : ℕ) (other : Value) → i < length items → cell_at (views items) i ≡ cell_of (view (get_or items i other))
element_at [] i other h = absurd (omega arith)
element_at (item ∷ items) zero other h = refl
element_at (item ∷ items) (suc i) other h = element_at items i other (omega arith)

pub no_element : (items : List Value) (i : ℕ) → length items ≤ i → cell_at (views items) i ≡ Err host_error
no_element [] i h = refl
no_element (item ∷ items) zero h = absurd (omega arith)
no_element (item ∷ items) (suc i) h = no_element items i (omega arith)

pub some_column : (i rows columns : ℕ) → i < rows * columns → 0 < columns
some_column i rows zero h = absurd (omega arith)
some_column i rows (suc columns) h = omega arith

-- the column of a cell that is counted by rows
pub div_below : (i rows columns : ℕ) → 1 ≤ rows → i < rows * columns → i / rows < columns
div_below i rows columns some h = (div-lt_iff_lt-mul {k = rows} {x = i} {y = columns} (omega arith)).1 (omega arith)

pub firsts_more : {A : Type 0} (at : ℕ → A) (n : ℕ) → firsts at (n + 1) ≡ firsts at n ++ at n ∷ []
firsts_more at n = rw add-one refl

-- a value more, seen
pub seen_more : (values : List Value) (more : Value) (seen : List Val) (last : Val) → map view values ≡ seen → view more ≡ last → map view (values ++ more ∷ []) ≡ seen ++ last ∷ []
seen_more values more seen last e f = grind (arith, common_steps)

-- the cells of an area are in the sheet, by columns too
pub cell_inside : (area : Area) (i : ℕ) → IsAreaInside area → i < area.rows * area.columns → IsInside (area.top + i % area.rows) (area.left + i / area.rows)
cell_inside area i inside h =
    let across : i / area.rows < area.columns = div_below i area.rows area.columns inside.some_row h in
    let down : i % area.rows < area.rows = omega (arith, inside.some_row) in
    record {
      first_row = omega (arith, inside.first_row);
      last_row = omega (arith, inside.last_row, down);
      first_column = omega (arith, inside.first_column);
      last_column = omega (arith, inside.last_column, across);
    }
