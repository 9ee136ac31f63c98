-- How often an object stands in the live values, after calls, frames that are left, references that are let go, and
-- objects that are made and end.
use Rattle.std.proofs.Common.{◌≡◌, ℕ, zero, suc, ◌+◌, Bool, true, false, List, [], ◌∷◌, ◌++◌, length, Option, Some, None, refl, ap, arith, zero-le, zero-lt-suc}
use Rattle.std.specs.Prelude.{slice_index_or, slice_set, map, nat_lt, if◌then◌else◌}
use Rattle.std.proofs.Math.Dec.{leb-suc-suc}
use Rattle.std.proofs.lemmas.Bool.{le-ltb, lt-ltb}
use Rattle.vba_values.specs.declared.object.ObjRef.TheVariants.{Heap}
use Rattle.vba_values.specs.Val.{Val, empty, object}
use Rattle.bound_project.specs.Project.{Declarations, procedure_at}
use Rattle.vba_meaning.specs.Memory.{Slot, value, path, Memory, Object, Frame, first_or, rest, top, frame_left, object_at, entered, calling, own_slots, received}
use Rattle.vba_meaning.specs.References.{objects_in, objects_in_values, objects_in_slot, objects_in_slots, objects_kept, times, times_in_frames, times_in_objects, looks, hold, taken_off, let_held, held_by, without_values, but_result, emptied, let_frame, as_told, gone, closed}
use Rattle.vba_meaning.specs.Effects.{renumbered}
use Rattle.vba_meaning.specs.Objects.{new_instance}
use Rattle.object_counts.specs.Gains.{entered_gains, made_gains}
use Rattle.object_counts.specs.Counting.{all_in, front}
use Rattle.object_counts.specs.Balance.{FramesInOrder}
use Rattle.object_counts.proofs.Indexed.{times-append}
use Rattle.object_counts.proofs.Stored.{in_value, object_in}
use Rattle.object_counts.proofs.Blocks.{rest_ordered, first_ordered}
use Rattle.object_counts.proofs.Looks.{Grows, grown, in_one, frames_top, hold_grows}

-- ---- calls

pub entered_grows : (d : Declarations) (called : Bool) (p : ℕ) (me : Val) (xs : List Slot) (m : Memory) → Grows m (entered_gains d p me xs) (entered d called p me xs m)
entered_grows d called p me xs m = record {
  ordered = λ h. (tt, still m.frames h);
  more = λ h o. omega (arith, as_before o m.frames, times-append o (objects_in_slots (own_slots d (procedure_at d p) ++ map received xs)) (objects_in me));
} where
  still : (fs : List Frame) → FramesInOrder fs → FramesInOrder (calling xs fs)
  still [] h = tt
  still (f ∷ fs) h = h

  as_before : (o : ℕ) (fs : List Frame) → times_in_frames o (calling xs fs) ≡ times_in_frames o fs
  as_before o [] = refl
  as_before o (f ∷ fs) = refl

-- ---- letting go

pub held_waits : (m : Memory) → Grows m [] (let_held m)
held_waits m = record {
  ordered = λ h. (first_ordered m.frames h, rest_ordered m.frames h);
  more = λ h o. omega (arith, frames_top o (record (top m) { held = [] }) m.frames, times-append o (top m).held m.waiting);
}

no_values : (o : ℕ) (xs : List Slot) → times o (objects_in_slots (without_values xs)) ≡ 0
no_values o [] = refl
no_values o (value v ∷ xs) = no_values o xs
no_values o (path p ∷ xs) = no_values o xs

one_result : (o : ℕ) (xs : List Slot) → times o (objects_in_slots (but_result xs)) + times o (objects_in_slots (rest xs)) ≡ times o (objects_in_slots xs)
one_result o [] = refl
one_result o (x ∷ xs) =
    omega (arith, no_values o xs, times-append o (objects_in_slot x) (objects_in_slots (without_values xs)), times-append o (objects_in_slot x) (objects_in_slots xs))

emptied_held : (o : ℕ) (f : Frame) → in_one o (emptied f) + times o (held_by f) ≡ in_one o f
emptied_held o f = by_test f.called where
  by_test : (b : Bool)
      → times o (objects_in_slots (if b then but_result f.slots else without_values f.slots)) + 0 + times o (objects_in (if b then empty else f.me)) + 0
      + times o (f.held ++ (objects_kept f.keeps ++ (if b then objects_in_slots (rest f.slots) ++ objects_in f.me else objects_in_slots f.slots))) ≡ in_one o f
  by_test true =
      omega (
        arith,
        one_result o f.slots,
        times-append o f.held (objects_kept f.keeps ++ (objects_in_slots (rest f.slots) ++ objects_in f.me)),
        times-append o (objects_kept f.keeps) (objects_in_slots (rest f.slots) ++ objects_in f.me),
        times-append o (objects_in_slots (rest f.slots)) (objects_in f.me),
      )
  by_test false =
      omega (arith, no_values o f.slots, times-append o f.held (objects_kept f.keeps ++ objects_in_slots f.slots), times-append o (objects_kept f.keeps) (objects_in_slots f.slots))

pub frame_waits : (m : Memory) → Grows m [] (let_frame m)
frame_waits m = record {
  ordered = λ h. (tt, rest_ordered m.frames h);
  more = λ h o. omega (arith, frames_top o (emptied (top m)) m.frames, times-append o (held_by (top m)) m.waiting, emptied_held o (top m));
}

-- a frame is left with all that is left in it
pub left_looks : (o : ℕ) (m : Memory) → looks (frame_left m) o + times o (all_in (top m)) ≡ looks m o
left_looks o m = omega (arith, by_frames m.frames, split (top m)) where
  by_frames : (fs : List Frame) → times_in_frames o (rest fs) + in_one o (first_or fs) ≡ times_in_frames o fs
  by_frames [] = refl
  by_frames (f ∷ fs) = omega arith

  split : (f : Frame) → times o (all_in f) ≡ in_one o f
  split f =
      omega (arith, times-append o (objects_in_slots f.slots) (objects_kept f.keeps ++ (objects_in f.me ++ f.held)), times-append o (objects_kept f.keeps) (objects_in f.me ++ f.held), times-append o (objects_in f.me) f.held)

pub taken_looks : (o : ℕ) (m : Memory) → looks (taken_off m) o + times o (front m.waiting) ≡ looks m o
taken_looks o m = omega (arith, by_list m.waiting) where
  by_list : (os : List ℕ) → times o (rest os) + times o (front os) ≡ times o os
  by_list [] = refl
  by_list (p ∷ ps) = omega arith

-- a variable of a module takes its first value
abbrev pub first_gains : ℕ → Val → List Val → List ℕ
first_gains g v vs = if nat_lt g (length vs) then objects_in v else []

pub closed_grows : (g : ℕ) (v : Val) (m : Memory) → Grows m (first_gains g v m.shared) (closed g v m)
closed_grows g v m = record {
  ordered = λ h. h;
  more = λ h o. omega (arith, set_first o m.shared g, times-append o (objects_in (slice_index_or m.shared g empty)) m.waiting);
} where
  nothing : (o g : ℕ) → times o (first_gains g v []) ≡ 0
  nothing o g = ap (λ b. times o (if b then objects_in v else [])) (le-ltb g 0 zero-le)

  whole : (o n : ℕ) → times o (if nat_lt 0 (suc n) then objects_in v else []) ≡ times o (objects_in v)
  whole o n = ap (λ b. times o (if b then objects_in v else [])) (lt-ltb 0 (suc n) (zero-lt-suc n))

  deeper : (o g n : ℕ) → times o (if nat_lt (suc g) (suc n) then objects_in v else []) ≡ times o (if nat_lt g n then objects_in v else [])
  deeper o g n = ap (λ b. times o (if b then objects_in v else [])) (leb-suc-suc (suc g) n)

  set_first : (o : ℕ) (vs : List Val) (g : ℕ) → times o (objects_in_values (slice_set vs g v)) + in_value o (slice_index_or vs g empty) ≡ times o (objects_in_values vs) + times o (first_gains g v vs)
  set_first o [] zero = refl
  set_first o [] (suc g) = omega (arith, nothing o (suc g))
  set_first o (w ∷ vs) zero = omega (arith, whole o (length vs), times-append o (objects_in v) (objects_in_values vs), times-append o (objects_in w) (objects_in_values vs))
  set_first o (w ∷ vs) (suc g) =
      omega (arith, set_first o vs g, deeper o g (length vs), times-append o (objects_in w) (objects_in_values (slice_set vs g v)), times-append o (objects_in w) (objects_in_values vs))

-- ---- objects

pub made_grows : (d : Declarations) (c : ℕ) (m : Memory)
    → Grows m (made_gains d c m) (hold (object (Heap (record { 0 = length m.objects }))) (record m { objects = m.objects ++ Some (new_instance d c) ∷ [] }))
made_grows d c m =
    let b = new_instance d c in
    let m1 : Memory = record m { objects = m.objects ++ Some b ∷ [] } in
    grown {m1 = m1} (record { ordered = λ h. h; more = λ h o. omega (arith, one_more o b m.objects) }) (hold_grows (object (Heap (record { 0 = length m.objects }))) m1)
  where
    one_more : (o : ℕ) (b : Object) (bs : List (Option Object)) → times_in_objects o (bs ++ Some b ∷ []) ≡ times_in_objects o bs + times o (objects_in_values b.fields)
    one_more o b [] = omega arith
    one_more o b (None ∷ bs) = one_more o b bs
    one_more o b (Some c ∷ bs) = omega (arith, one_more o b bs)

pub told_grows : (r : ℕ) (m : Memory) → Grows m [] (as_told r m)
told_grows r m = record { ordered = λ h. h; more = λ h o. omega (arith, as_before o m.objects r) } where
  as_before : (o : ℕ) (bs : List (Option Object)) (i : ℕ) → times_in_objects o (slice_set bs i (Some (record (object_in bs i) { told = true }))) ≡ times_in_objects o bs
  as_before o [] zero = refl
  as_before o [] (suc i) = refl
  as_before o (None ∷ bs) zero = omega arith
  as_before o (Some b ∷ bs) zero = refl
  as_before o (None ∷ bs) (suc i) = as_before o bs i
  as_before o (Some b ∷ bs) (suc i) = omega (arith, as_before o bs i)

pub renumbered_objects : (o : ℕ) (bs : List (Option Object)) (n i : ℕ) (number : Option ℕ)
    → times_in_objects o (slice_set bs n (Some (record (object_in bs n) { set_numbers = renumbered i number (object_in bs n).set_numbers }))) ≡ times_in_objects o bs
renumbered_objects o [] zero i number = refl
renumbered_objects o [] (suc n) i number = refl
renumbered_objects o (None ∷ bs) zero i number = omega arith
renumbered_objects o (Some b ∷ bs) zero i number = refl
renumbered_objects o (None ∷ bs) (suc n) i number = renumbered_objects o bs n i number
renumbered_objects o (Some b ∷ bs) (suc n) i number = omega (arith, renumbered_objects o bs n i number)

pub gone_grows : (r : ℕ) (m : Memory) → Grows m [] (gone r m)
gone_grows r m = record { ordered = λ h. h; more = λ h o. omega (arith, less o m.objects r, times-append o (objects_in_values (object_at m r).fields) m.waiting) } where
  less : (o : ℕ) (bs : List (Option Object)) (i : ℕ) → times_in_objects o (slice_set bs i None) + times o (objects_in_values (object_in bs i).fields) ≡ times_in_objects o bs
  less o [] zero = refl
  less o [] (suc i) = refl
  less o (None ∷ bs) zero = omega arith
  less o (Some b ∷ bs) zero = omega arith
  less o (None ∷ bs) (suc i) = less o bs i
  less o (Some b ∷ bs) (suc i) = omega (arith, less o bs i)
