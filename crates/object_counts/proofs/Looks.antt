-- How often an object stands in the live values of the memory, after each change of it.
use Rattle.std.proofs.Common.{◌≡◌, ℕ, ◌+◌, Bool, true, List, [], ◌∷◌, ◌++◌, Option, Some, None, refl, ap, arith}
use Rattle.vba_values.specs.Val.{Val}
use Rattle.arrays_udt.specs.Paths.{with_path}
use Rattle.vba_meaning.specs.Paths.{Root, in_frame, in_project, in_fields, in_block, in_object, in_item, Path, plain_steps}
use Rattle.vba_meaning.specs.Memory.{value, Kept, walk, Memory, Frame, first_or, rest, top, with_top, root_value, with_root, inner_or_none, value_at, written, with_value, value_or_empty, found, put, without}
use Rattle.vba_meaning.specs.References.{objects_in, objects_in_slots, objects_kept, kept_value, times, times_in_frames, looks, hold, displaced, replaced, waits}
use Rattle.vba_meaning.specs.Effects.{kept_at}
use Rattle.vba_meaning.specs.Arrays.{keeping, walking}
use Rattle.object_counts.specs.Balance.{InOrder, FramesInOrder}
use Rattle.object_counts.proofs.Indexed.{times-append}
use Rattle.object_counts.proofs.Stored.{in_value, path_set, values_set, fields_set}
use Rattle.object_counts.proofs.Blocks.{in_kept, put_ordered, without_ordered, kept_put, kept_without, slot_in_frames, kept_in_frames, slot_ordered, kept_ordered, rest_ordered, first_ordered}

-- where blocks keep in order they still do, and each object stands in live values once more for each time that it stands
-- in the list
pub record Grows (m : Memory) (gs : List ℕ) (m1 : Memory) : Type 0 where
  pub ordered : FramesInOrder m.frames → FramesInOrder m1.frames
  pub more : FramesInOrder m.frames → (o : ℕ) → looks m1 o ≡ looks m o + times o gs

pub same : (m : Memory) → Grows m [] m
same m = record { ordered = λ h. h; more = λ h o. omega arith }

pub grown : {m m1 m2 : Memory} {gs hs : List ℕ} → Grows m gs m1 → Grows m1 hs m2 → Grows m (gs ++ hs) m2
grown {gs = gs} {hs = hs} a b = record {
  ordered = λ h. b.ordered (a.ordered h);
  more = λ h o. omega (arith, a.more h o, b.more (a.ordered h) o, times-append o gs hs);
}

-- ---- the running frame

abbrev pub in_one : ℕ → Frame → ℕ
in_one o f = times o (objects_in_slots f.slots) + times o (objects_kept f.keeps) + times o (objects_in f.me) + times o f.held

pub frames_top : (o : ℕ) (f : Frame) (fs : List Frame) → times_in_frames o (f ∷ rest fs) + in_one o (first_or fs) ≡ in_one o f + times_in_frames o fs
frames_top o f [] = omega arith
frames_top o f (g ∷ fs) = omega arith

pub top_grows : (m : Memory) (f : Frame) (gs : List ℕ) → (InOrder (top m).keeps → InOrder f.keeps) → (InOrder (top m).keeps → (o : ℕ) → in_one o f ≡ in_one o (top m) + times o gs) → Grows m gs (with_top m f)
top_grows m f gs k e = record {
  ordered = λ h. (k (first_ordered m.frames h), rest_ordered m.frames h);
  more = λ h o. omega (arith, e (first_ordered m.frames h) o, frames_top o f m.frames);
}

-- what looking doesn't see changes in it
pub top_same : (m : Memory) (f : Frame) → (InOrder (top m).keeps → InOrder f.keeps) → ((o : ℕ) → in_one o f ≡ in_one o (top m)) → Grows m [] (with_top m f)
top_same m f k e = top_grows m f [] k (λ h o. omega (arith, e o))

pub hold_grows : (v : Val) (m : Memory) → Grows m (objects_in v) (hold v m)
hold_grows v m = top_grows m (record (top m) { held = (top m).held ++ objects_in v }) (objects_in v) (λ h. h) (λ h o. omega (arith, times-append o (top m).held (objects_in v)))

pub displaced_grows : (v : Val) (m : Memory) → Grows m (objects_in v) (displaced v m)
displaced_grows v m = top_grows m (record (top m) { held = objects_in v ++ (top m).held }) (objects_in v) (λ h. h) (λ h o. omega (arith, times-append o (objects_in v) (top m).held))

-- ---- what blocks keep

pub keeping_grows : (i : ℕ) (k : Kept) (m : Memory) → Grows m (objects_in (kept_value k)) (keeping i k m)
keeping_grows i k m =
    let f : Frame = record (top m) { keeps = put i k (top m).keeps; held = objects_in (kept_at i m) ++ (top m).held } in
    top_grows m f (objects_in (kept_value k)) (λ h. put_ordered i k (top m).keeps h)
    (λ h o. omega (arith, kept_put o i k (top m).keeps h, times-append o (objects_in (kept_at i m)) (top m).held))

pub over_grows : (i : ℕ) (m : Memory) → Grows m [] (displaced (kept_at i m) (with_top m (record (top m) { keeps = without (top m).keeps i })))
over_grows i m =
    let f : Frame = record (top m) { keeps = without (top m).keeps i; held = objects_in (kept_at i m) ++ (top m).held } in
    top_grows m f [] (λ h. without_ordered i (top m).keeps h)
    (λ h o. omega (arith, kept_without o i (top m).keeps h, times-append o (objects_in (kept_at i m)) (top m).held))

-- a loop goes on over what it walks
pub still_walking : (i : ℕ) (begun b : Bool) (v : Val) (n k : ℕ) (m : Memory) → found (top m).keeps i ≡ Some (walk b v n) → Grows m [] (walking i begun v k m)
still_walking i begun b v n k m e =
    top_grows m (record (top m) { keeps = put i (walk begun v k) (top m).keeps }) [] (λ h. put_ordered i (walk begun v k) (top m).keeps h)
    (λ h o. omega (arith, kept_put o i (walk begun v k) (top m).keeps h, ap (λ x. in_kept o x) e))

-- it begins, and what it walked before waits
pub walking_grows : (i : ℕ) (v : Val) (m : Memory) → Grows m (objects_in v) (waits (objects_in (kept_at i m)) (walking i true v 0 m))
walking_grows i v m =
    let f : Frame = record (top m) { keeps = put i (walk true v 0) (top m).keeps } in
    record {
      ordered = λ h. (put_ordered i (walk true v 0) (top m).keeps (first_ordered m.frames h), rest_ordered m.frames h);
      more = λ h o. omega (arith, frames_top o f m.frames, kept_put o i (walk true v 0) (top m).keeps (first_ordered m.frames h), times-append o (objects_in (kept_at i m)) m.waiting);
    }

-- ---- stores by a path

-- a place that a variable has
abbrev pub IsVariable : Root → Type 0
IsVariable (in_frame k x) = Unit {0}
IsVariable (in_project x) = Unit {0}
IsVariable (in_fields n i) = Unit {0}
IsVariable (in_block k i) = Unit {0}
IsVariable (in_object o) = ⊥
IsVariable (in_item v) = ⊥

root_set : (o : ℕ) (m : Memory) (r : Root) (old w : Val) → FramesInOrder m.frames → IsVariable r → root_value m r ≡ Some old → looks (with_root m r w) o + in_value o old ≡ looks m o + in_value o w
root_set o m (in_frame k x) old w h is e = omega (arith, slot_in_frames o m.frames k x old w e)
root_set o m (in_project x) old w h is e = omega (arith, values_set o m.shared x old w e)
root_set o m (in_fields n i) old w h is e = omega (arith, fields_set o m.objects n i old w e)
root_set o m (in_block k i) old w h is e = omega (arith, kept_in_frames o m.frames k i old w h e)
root_set o m (in_object r) old w h is e = absurd is
root_set o m (in_item v) old w h is e = absurd is

root_ordered : (m : Memory) (r : Root) (w : Val) → FramesInOrder m.frames → FramesInOrder (with_root m r w).frames
root_ordered m (in_frame k x) w h = slot_ordered m.frames k x (value w) h
root_ordered m (in_project x) w h = h
root_ordered m (in_fields n i) w h = h
root_ordered m (in_block k i) w h = kept_ordered m.frames k i _ h
root_ordered m (in_object r) w h = h
root_ordered m (in_item v) w h = h

-- there is this value at the path, and a variable has it
pub record IsThere (m : Memory) (p : Path) (old : Val) : Type 0 where
  pub variable : IsVariable p.root
  pub here : value_at m p ≡ Some old

pub written_looks : (o : ℕ) (m : Memory) (p : Path) (old w : Val) → FramesInOrder m.frames → IsThere m p old → looks (with_value m p w) o + in_value o old ≡ looks m o + in_value o w
written_looks o m p old w h there = by_root (root_value m p.root) refl there.here where
  by_root : (x : Option Val) → root_value m p.root ≡ x → inner_or_none x (plain_steps p.steps) ≡ Some old → looks (written m p x w) o + in_value o old ≡ looks m o + in_value o w
  by_root None e i = absurd cc
  by_root (Some r) e i =
      omega (arith, root_set o m p.root r (with_path r (plain_steps p.steps) w) h there.variable e, path_set o r (plain_steps p.steps) old w i)

pub written_ordered : (m : Memory) (p : Path) (w : Val) → FramesInOrder m.frames → FramesInOrder (with_value m p w).frames
written_ordered m p w h = by_root (root_value m p.root) where
  by_root : (x : Option Val) → FramesInOrder (written m p x w).frames
  by_root None = h
  by_root (Some r) = root_ordered m p.root (with_path r (plain_steps p.steps) w) h

pub replaced_grows : (m : Memory) (p : Path) (old w : Val) → IsThere m p old → Grows m (objects_in w) (replaced p w m)
replaced_grows m p old w there =
    let gone = value_or_empty (value_at m p) in
    let held = displaced_grows gone (with_value m p w) in
    record {
      ordered = λ h. held.ordered (written_ordered m p w h);
      more = λ h o. omega (arith, held.more (written_ordered m p w h) o, written_looks o m p old w h there, ap (λ x. in_value o (value_or_empty x)) there.here);
    }

pub exchanged_grows : (m : Memory) (p : Path) (old w : Val) → IsThere m p old → Grows m (objects_in w) (waits (objects_in old) (with_value m p w))
exchanged_grows m p old w there = record {
  ordered = λ h. written_ordered m p w h;
  more = λ h o. omega (arith, written_looks o m p old w h there, times-append o (objects_in old) (with_value m p w).waiting);
}
