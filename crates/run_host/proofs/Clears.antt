-- ClearContents by the cells that aren't Empty.
use Rattle.std.proofs.Common.{◌≡◌, ℕ, ◌+◌, ◌*◌, ◌-◌, ◌≤◌, ◌<◌, zero, suc, Bool, true, false, List, [], ◌∷◌, refl, sym, subst, arith}
use Rattle.std.specs.Prelude.{Option, Some, None, IfSome, Err}
use Rattle.vba_base.specs.declared.fault.OrMemory.{OrMemory}
use Rattle.vba_base.specs.declared.fault.OrMemory.TheVariants.{Fault, NoMemory}
use Rattle.vba_values.specs.declared.fault.Bad.{Bad}
use Rattle.sheet_host.specs.declared.area.Area.{Area}
use Rattle.sheet_host.specs.declared.cell.CellValue.TheVariants as cell
use Rattle.sheet_host.specs.Books.{content_at}
use Rattle.sheet_host.specs.Field.{is_empty}
use Rattle.sheet_host.specs.Filled.{IsBehind, IsFilledBehind, IsFirst}
use Rattle.sheet_host.specs.Sheets.{Position, nth_cell, value_at}
use Rattle.sheet_host.specs.Size.{IsAreaInside}
use Rattle.sheet_host.specs.Smallest.{IsIn}
use Rattle.vba_meaning.specs.Memory.{Memory}
use Rattle.vba_meaning.specs.Effects.{Event, Effect, Fine, answered, area_in}
use Rattle.vba_meaning.specs.Host.{cells_put, cleared, one_cleared}
use Rattle.run_host.specs.Tells.{RefusesTold, TellsThen}
use Rattle.run_host.proofs.Telling.{quiet_fine, then_all, then_refused}
use Rattle.run_host.proofs.Cells.{place_of, nth_place, place_less, nth_in, behind_place, before_place, place_before}

-- how many cells of an area were looked at, where the last one was this
abbrev pub passed : Area → Option Position → ℕ
passed a None = 0
passed a (Some p) = suc (place_of a p)

-- the cells that were looked at are cleared
pub record HasCleared (a : Area) (after : Option Position) (old new : List Event) (m0 m : Memory) : Type 0 where
  pub inside : IfSome after (λ p. IsIn a p)
  pub cleared : TellsThen old new (cleared a (passed a after) m0) (Fine tt m)

behind_at : (a : Area) (after : Option Position) (j : ℕ) → IfSome after (λ p. IsIn a p) → 1 ≤ a.columns → passed a after ≤ j
    → IsBehind after (nth_cell a j)
behind_at a None j is some h = tt
behind_at a (Some p) j is some h = behind_place a p j is some (omega arith)

-- a cell that is Empty is passed over
over_empty : (a : Area) (j : ℕ) (old new : List Event) (m0 m : Memory) → is_empty (value_at (content_at m.book a.sheet) (nth_cell a j)) ≡ true
    → TellsThen old new (cleared a j m0) (Fine tt m) → TellsThen old new (cleared a (suc j) m0) (Fine tt m)
over_empty a j old new m0 m empty before =
    then_all old new new (cleared a j m0) (λ u m1. one_cleared a (nth_cell a j) m1) tt m (Fine tt m) before
    (quiet_fine new (one_cleared a (nth_cell a j) m) tt m (rw empty refl))

by_empty : (b : Bool) → (b ≡ false → ⊥) → b ≡ true
by_empty true h = refl
by_empty false h = absurd (h refl)

-- so many cells that are all Empty
over_all : (a : Area) (n k d : ℕ) (old new : List Event) (m0 m : Memory) → k ≡ n + d → ((j : ℕ) → n ≤ j → j < k
    → is_empty (value_at (content_at m.book a.sheet) (nth_cell a j)) ≡ true)
    → TellsThen old new (cleared a n m0) (Fine tt m) → TellsThen old new (cleared a k m0) (Fine tt m)
over_all a n k zero old new m0 m e empty before = let same : k ≡ n = omega arith in rw same before
over_all a n k (suc d) old new m0 m e empty before =
    let more : k ≡ suc (n + d) = omega arith in
    rw more (over_empty a (n + d) old new m0 m (empty (n + d) (omega arith) (omega arith)) (over_all a n (n + d) d old new m0 m refl
    (λ j h l. empty j h (omega arith)) before))

-- no cell is left
pub all_cleared : (a : Area) (after : Option Position) (old new : List Event) (m0 m : Memory) → IsAreaInside a → HasCleared a after old new m0 m
    → IsFirst (IsFilledBehind (content_at m.book a.sheet) a after) None → TellsThen old new (cleared a (a.rows * a.columns) m0) (Fine tt m)
all_cleared a after old new m0 m is so none =
    let n = passed a after in
    let le : n ≤ a.rows * a.columns = passed_le after so.inside in
    over_all a n (a.rows * a.columns) (a.rows * a.columns - n) old new m0 m (omega arith) empty_at so.cleared where
      passed_le : (o : Option Position) → IfSome o (λ p. IsIn a p) → passed a o ≤ a.rows * a.columns
      passed_le None h = omega arith
      passed_le (Some p) h = place_less a p h

      empty_at : (j : ℕ) → passed a after ≤ j → j < a.rows * a.columns → is_empty (value_at (content_at m.book a.sheet) (nth_cell a j)) ≡ true
      empty_at j h k =
          by_empty (is_empty (value_at (content_at m.book a.sheet) (nth_cell a j))) (λ filled. none (nth_cell a j) (record {
            inside = nth_in a j k is.some_column;
            behind = behind_at a after j so.inside is.some_column h;
            filled = filled;
          }))

passed_to : (a : Area) (after : Option Position) (q : Position) → IfSome after (λ p. IsIn a p) → IsIn a q → IsBehind after q
    → passed a after ≤ place_of a q
passed_to a None q h is b = omega arith
passed_to a (Some p) q h is b = let less = place_before a p q h is b in omega arith

-- fewer cells are left
pub next_smaller : (a : Area) (after : Option Position) (q : Position) → IfSome after (λ p. IsIn a p) → IsIn a q → IsBehind after q
    → a.rows * a.columns - passed a (Some q) < a.rows * a.columns - passed a after
next_smaller a after q h is b =
    let le : passed a after ≤ place_of a q = passed_to a after q h is b in
    let less : place_of a q < a.rows * a.columns = place_less a q is in
    omega arith

-- the cells before the next one are all Empty
pub before_next : (a : Area) (after : Option Position) (q : Position) (old mid : List Event) (m0 m : Memory) → IsAreaInside a
    → HasCleared a after old mid m0 m
    → IsFirst (IsFilledBehind (content_at m.book a.sheet) a after) (Some q) → TellsThen old mid (cleared a (place_of a q) m0) (Fine tt m)
before_next a after q old mid m0 m is so first =
    let le : passed a after ≤ place_of a q = passed_to a after q so.inside first.0.inside first.0.behind in
    over_all a (passed a after) (place_of a q) (place_of a q - passed a after) old mid m0 m (omega arith) empty_at so.cleared where
      empty_at : (j : ℕ) → passed a after ≤ j → j < place_of a q → is_empty (value_at (content_at m.book a.sheet) (nth_cell a j)) ≡ true
      empty_at j h k =
          by_empty (is_empty (value_at (content_at m.book a.sheet) (nth_cell a j))) (λ filled. before_place a q j first.0.inside is.some_column k
          (first.1 (nth_cell a j) (record {
            inside = nth_in a j (omega (arith, place_less a q first.0.inside)) is.some_column;
            behind = behind_at a after j so.inside is.some_column h;
            filled = filled;
          })))

-- the next one is cleared
pub next_cleared : (a : Area) (after : Option Position) (q : Position) (old mid new : List Event) (m0 m : Memory) (d : Effect (Unit {0}))
    → IsAreaInside a → HasCleared a after old mid m0 m
    → IsFirst (IsFilledBehind (content_at m.book a.sheet) a after) (Some q) → TellsThen mid new (cells_put (area_in a.sheet.0 q.0 q.1 1 1)
    (cell.Empty ∷ []) m) d
    → TellsThen old new (cleared a (suc (place_of a q)) m0) d
next_cleared a after q old mid new m0 m d is so first put =
    then_all old mid new (cleared a (place_of a q) m0) (λ u m1. one_cleared a (nth_cell a (place_of a q)) m1) tt m d
    (before_next a after q old mid m0 m is so first)
    (subst (λ (p : Position). TellsThen mid new (one_cleared a p m) d) (sym (nth_place a q first.0.inside)) (full (is_empty (value_at
    (content_at m.book a.sheet) q)) refl first.0.filled)) where
      full : (b : Bool) → is_empty (value_at (content_at m.book a.sheet) q) ≡ b → b ≡ false → TellsThen mid new (one_cleared a q m) d
      full true e filled = cc
      full false e filled = rw e put

-- what is refused at a cell is refused of all
refused_on : (a : Area) (k d : ℕ) (fault : OrMemory Bad) (old new : List Event) (m0 n : Memory) → RefusesTold fault old new n (cleared a k m0)
    → RefusesTold fault old new n (cleared a (d + k) m0)
refused_on a k zero fault old new m0 n is = let same : 0 + k ≡ k = omega arith in rw same is
refused_on a k (suc d) fault old new m0 n is =
    let more : suc d + k ≡ suc (d + k) = omega arith in
    rw more (then_refused fault old new n (cleared a (d + k) m0) (λ u m1. one_cleared a (nth_cell a (d + k)) m1)
    (refused_on a k d fault old new m0 n is))

pub next_refused : (a : Area) (after : Option Position) (q : Position) (fault : OrMemory Bad) (old mid new : List Event) (m0 m n : Memory)
    → IsAreaInside a → HasCleared a after old mid m0 m
    → IsFirst (IsFilledBehind (content_at m.book a.sheet) a after) (Some q) → RefusesTold fault mid new n (cells_put (area_in a.sheet.0 q.0 q.1 1 1)
    (cell.Empty ∷ []) m)
    → RefusesTold fault old new n (cleared a (a.rows * a.columns) m0)
next_refused a after q NoMemory old mid new m0 m n is so first put = tt
next_refused a after q (Fault bad) old mid new m0 m n is so first put =
    let less : place_of a q < a.rows * a.columns = place_less a q first.0.inside in
    let k : ℕ = suc (place_of a q) in
    let all : a.rows * a.columns - k + k ≡ a.rows * a.columns = omega arith in
    rw (← all) (refused_on a k (a.rows * a.columns - k) (Fault bad) old new m0 n (next_cleared a after q old mid new m0 m (answered
    (Err bad) n) is so first put))
