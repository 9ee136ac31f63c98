-- What blocks keep, and frames: one place among them is written.
use Rattle.std.proofs.Common.{◌≡◌, ℕ, ◌+◌, ◌<◌, Bool, true, false, List, [], ◌∷◌, length, Option, Some, None, refl, subst, arith, lt_trans}
use Rattle.std.specs.Prelude.{slice_get, slice_set, ◌==◌, nat_lt, if◌then◌else◌}
use Rattle.std.proofs.lemmas.Bool.{eqb-true, eqb-false, ltb-true, ltb-false}
use Rattle.vba_values.specs.Val.{Val}
use Rattle.vba_meaning.specs.Memory.{Slot, value, Kept, only, at_path, walk, Frame, first_or, rest, frame_at, with_slot, value_in, found, without, put, with_kept, value_kept}
use Rattle.vba_meaning.specs.References.{objects_in, kept_value, objects_kept, times, times_in_frames}
use Rattle.vba_meaning.specs.Effects.{kept_or}
use Rattle.object_counts.specs.Balance.{AllAbove, InOrder, FramesInOrder}
use Rattle.object_counts.proofs.Indexed.{times-append}
use Rattle.object_counts.proofs.Stored.{in_value, same_value, slots_set}

-- ---- in order

above_less : (i j : ℕ) (es : List (ℕ × Kept)) → i < j → AllAbove j es → AllAbove i es
above_less i j [] lt h = tt
above_less i j (e ∷ es) lt h = (lt_trans lt h.0, above_less i j es lt h.1)

above_put : (i j : ℕ) (v : Kept) (es : List (ℕ × Kept)) → i < j → AllAbove i es → AllAbove i (put j v es)
above_put i j v [] lt h = (lt, tt)
above_put i j v (e ∷ es) lt h = by_test (e.0 == j) (nat_lt j e.0) (above_put i j v es lt h.1) where
  by_test : (b c : Bool) → AllAbove i (put j v es) → AllAbove i (if b then (j, v) ∷ es else if c then (j, v) ∷ e ∷ es else e ∷ put j v es)
  by_test true c more = (lt, h.1)
  by_test false true more = (lt, h)
  by_test false false more = (h.0, more)

pub put_ordered : (j : ℕ) (v : Kept) (es : List (ℕ × Kept)) → InOrder es → InOrder (put j v es)
put_ordered j v [] h = (tt, tt)
put_ordered j v (e ∷ es) h = by_test (e.0 == j) (nat_lt j e.0) (put_ordered j v es h.1) refl refl where
  by_test : (b c : Bool) → InOrder (put j v es) → (e.0 == j) ≡ b → nat_lt j e.0 ≡ c → InOrder (if b then (j, v) ∷ es else if c then (j, v) ∷ e ∷ es else e ∷ put j v es)
  by_test true c more x y = (subst (λ n. AllAbove n es) (eqb-true e.0 j x) h.0, h.1)
  by_test false true more x y = let lt = ltb-true j e.0 y in ((lt, above_less j e.0 es lt h.0), h)
  by_test false false more x y =
      let apart = eqb-false e.0 j x in
      let least = ltb-false j e.0 y in
      let lt : e.0 < j = omega (arith, apart, least) in
      (above_put e.0 j v es lt h.0, more)

above_without : (i j : ℕ) (es : List (ℕ × Kept)) → AllAbove i es → AllAbove i (without es j)
above_without i j [] h = tt
above_without i j (e ∷ es) h = by_test (e.0 == j) (above_without i j es h.1) where
  by_test : (b : Bool) → AllAbove i (without es j) → AllAbove i (if b then without es j else e ∷ without es j)
  by_test true more = more
  by_test false more = (h.0, more)

pub without_ordered : (j : ℕ) (es : List (ℕ × Kept)) → InOrder es → InOrder (without es j)
without_ordered j [] h = tt
without_ordered j (e ∷ es) h = by_test (e.0 == j) (without_ordered j es h.1) where
  by_test : (b : Bool) → InOrder (without es j) → InOrder (if b then without es j else e ∷ without es j)
  by_test true more = more
  by_test false more = (above_without e.0 j es h.0, more)

-- ---- what a block keeps, by its header

abbrev pub in_kept : ℕ → Option Kept → ℕ
in_kept o k = in_value o (kept_value (kept_or k))

none_above : (o i : ℕ) (es : List (ℕ × Kept)) → AllAbove i es → in_kept o (found es i) ≡ 0
none_above o i [] h = refl
none_above o i (e ∷ es) h = by_test (e.0 == i) (none_above o i es h.1) refl where
  by_test : (b : Bool) → in_kept o (found es i) ≡ 0 → (e.0 == i) ≡ b → in_kept o (if b then Some e.1 else found es i) ≡ 0
  by_test true more x = absurd (let y : e.0 ≡ i = eqb-true e.0 i x in omega (arith, y, h.0))
  by_test false more x = more

none_removed : (o i : ℕ) (es : List (ℕ × Kept)) → AllAbove i es → times o (objects_kept (without es i)) ≡ times o (objects_kept es)
none_removed o i [] h = refl
none_removed o i (e ∷ es) h = by_test (e.0 == i) (none_removed o i es h.1) refl where
  by_test : (b : Bool) → times o (objects_kept (without es i)) ≡ times o (objects_kept es) → (e.0 == i) ≡ b → times o (objects_kept (if b then without es i else e ∷ without es i)) ≡ times o (objects_kept (e ∷ es))
  by_test true more x = absurd (let y : e.0 ≡ i = eqb-true e.0 i x in omega (arith, y, h.0))
  by_test false more x =
      omega (arith, more, times-append o (objects_in (kept_value e.1)) (objects_kept (without es i)), times-append o (objects_in (kept_value e.1)) (objects_kept es))

-- the new one counts in place of the old one
pub kept_put : (o i : ℕ) (k : Kept) (es : List (ℕ × Kept)) → InOrder es
    → times o (objects_kept (put i k es)) + in_kept o (found es i) ≡ times o (objects_kept es) + in_value o (kept_value k)
kept_put o i k [] h = omega (arith, times-append o (objects_in (kept_value k)) [])
kept_put o i k (e ∷ es) h = by_test (e.0 == i) (nat_lt i e.0) (kept_put o i k es h.1) refl where
  by_test : (b c : Bool) → times o (objects_kept (put i k es)) + in_kept o (found es i) ≡ times o (objects_kept es) + in_value o (kept_value k) → nat_lt i e.0 ≡ c
      → times o (objects_kept (if b then (i, k) ∷ es else if c then (i, k) ∷ e ∷ es else e ∷ put i k es)) + in_kept o (if b then Some e.1 else found es i) ≡ times o (objects_kept (e ∷ es)) + in_value o (kept_value k)
  by_test true c more y = omega (arith, times-append o (objects_in (kept_value k)) (objects_kept es), times-append o (objects_in (kept_value e.1)) (objects_kept es))
  by_test false true more y =
      omega (arith, none_above o i es (above_less i e.0 es (ltb-true i e.0 y) h.0), times-append o (objects_in (kept_value k)) (objects_kept (e ∷ es)))
  by_test false false more y =
      omega (arith, more, times-append o (objects_in (kept_value e.1)) (objects_kept es), times-append o (objects_in (kept_value e.1)) (objects_kept (put i k es)))

pub kept_without : (o i : ℕ) (es : List (ℕ × Kept)) → InOrder es → times o (objects_kept (without es i)) + in_kept o (found es i) ≡ times o (objects_kept es)
kept_without o i [] h = refl
kept_without o i (e ∷ es) h = by_test (e.0 == i) (kept_without o i es h.1) refl where
  by_test : (b : Bool) → times o (objects_kept (without es i)) + in_kept o (found es i) ≡ times o (objects_kept es) → (e.0 == i) ≡ b → times o (objects_kept (if b then without es i else e ∷ without es i)) + in_kept o (if b then Some e.1 else found es i) ≡ times o (objects_kept (e ∷ es))
  by_test true more x =
      let above : AllAbove i es = subst (λ n. AllAbove n es) (eqb-true e.0 i x) h.0 in
      omega (arith, none_removed o i es above, times-append o (objects_in (kept_value e.1)) (objects_kept es))
  by_test false more x =
      omega (arith, more, times-append o (objects_in (kept_value e.1)) (objects_kept (without es i)), times-append o (objects_in (kept_value e.1)) (objects_kept es))

-- ---- frames

pub slot_in_frames : (o : ℕ) (fs : List Frame) (k x : ℕ) (old w : Val) → value_in (slice_get (frame_at fs k).slots x) ≡ Some old
    → times_in_frames o (with_slot fs k x (value w)) + in_value o old ≡ times_in_frames o fs + in_value o w
slot_in_frames o [] k x old w e = absurd cc
slot_in_frames o (f ∷ fs) k x old w e = by_test (length fs == k) e (slot_in_frames o fs k x old w) where
  by_test : (b : Bool) → value_in (slice_get (if b then f else frame_at fs k).slots x) ≡ Some old
      → (value_in (slice_get (frame_at fs k).slots x) ≡ Some old → times_in_frames o (with_slot fs k x (value w)) + in_value o old ≡ times_in_frames o fs + in_value o w)
      → times_in_frames o (if b then record f { slots = slice_set f.slots x (value w) } ∷ fs else f ∷ with_slot fs k x (value w)) + in_value o old ≡ times_in_frames o (f ∷ fs) + in_value o w
  by_test true e more = omega (arith, slots_set o f.slots x old w e)
  by_test false e more = omega (arith, more e)

kept_there : (o : ℕ) (k : Option Kept) (old : Val) → value_kept k ≡ Some old → in_kept o k ≡ in_value o old
kept_there o None old e = absurd cc
kept_there o (Some (only v)) old e = same_value o e
kept_there o (Some (at_path p)) old e = absurd cc
kept_there o (Some (walk begun v k)) old e = absurd cc

pub kept_in_frames : (o : ℕ) (fs : List Frame) (k i : ℕ) (old w : Val) → FramesInOrder fs → value_kept (found (frame_at fs k).keeps i) ≡ Some old
    → times_in_frames o (with_kept fs k i (only w)) + in_value o old ≡ times_in_frames o fs + in_value o w
kept_in_frames o [] k i old w h e = absurd cc
kept_in_frames o (f ∷ fs) k i old w h e = by_test (length fs == k) e (kept_in_frames o fs k i old w h.1) where
  by_test : (b : Bool) → value_kept (found (if b then f else frame_at fs k).keeps i) ≡ Some old
      → (value_kept (found (frame_at fs k).keeps i) ≡ Some old → times_in_frames o (with_kept fs k i (only w)) + in_value o old ≡ times_in_frames o fs + in_value o w)
      → times_in_frames o (if b then record f { keeps = put i (only w) f.keeps } ∷ fs else f ∷ with_kept fs k i (only w)) + in_value o old ≡ times_in_frames o (f ∷ fs) + in_value o w
  by_test true e more = omega (arith, kept_put o i (only w) f.keeps h.0, kept_there o (found f.keeps i) old e)
  by_test false e more = omega (arith, more e)

pub slot_ordered : (fs : List Frame) (k x : ℕ) (v : Slot) → FramesInOrder fs → FramesInOrder (with_slot fs k x v)
slot_ordered [] k x v h = tt
slot_ordered (f ∷ fs) k x v h = by_test (length fs == k) (slot_ordered fs k x v h.1) where
  by_test : (b : Bool) → FramesInOrder (with_slot fs k x v) → FramesInOrder (if b then record f { slots = slice_set f.slots x v } ∷ fs else f ∷ with_slot fs k x v)
  by_test true more = h
  by_test false more = (h.0, more)

pub kept_ordered : (fs : List Frame) (k i : ℕ) (v : Kept) → FramesInOrder fs → FramesInOrder (with_kept fs k i v)
kept_ordered [] k i v h = tt
kept_ordered (f ∷ fs) k i v h = by_test (length fs == k) (kept_ordered fs k i v h.1) where
  by_test : (b : Bool) → FramesInOrder (with_kept fs k i v) → FramesInOrder (if b then record f { keeps = put i v f.keeps } ∷ fs else f ∷ with_kept fs k i v)
  by_test true more = (put_ordered i v f.keeps h.0, h.1)
  by_test false more = (h.0, more)

pub rest_ordered : (fs : List Frame) → FramesInOrder fs → FramesInOrder (rest fs)
rest_ordered [] h = tt
rest_ordered (f ∷ fs) h = h.1

pub first_ordered : (fs : List Frame) → FramesInOrder fs → InOrder (first_or fs).keeps
first_ordered [] h = tt
first_ordered (f ∷ fs) h = h.0
