-- A value that takes the place of another one is there, and gives way to a third.
use Rattle.std.proofs.Common.{◌≡◌, ℕ, zero, suc, List, [], ◌∷◌, length, refl, sym, ap, ◌∙◌, rules, eq-eqb}
use Rattle.std.specs.Prelude.{Bool, true, false, Option, Some, None, slice_get, slice_index_or, slice_set, ◌==◌, nat_lt, if◌then◌else◌}
use Rattle.vba_values.specs.Val.{Val}
use Rattle.run_memory.specs.Exchanges.{frame_exchanged, frames_with, root_exchanged}
use Rattle.run_memory.specs.Keeps.{frame_keeping}
use Rattle.run_memory.proofs.Exchanged.{kept_changed, slot_changed}
use Rattle.vba_meaning.specs.Paths.{Root, in_frame, in_project, in_fields, in_block, in_object, in_item}
use Rattle.vba_meaning.specs.Memory.{Object, object_or, with_field, Frame, no_frame, Slot, value, Kept, only, Memory, frame_at, with_slot, with_kept, value_in, value_kept, found, put, root_value, with_root}

set_there : {A : Type 0} (xs : List A) (i : ℕ) (a v : A) → slice_get xs i ≡ Some v → slice_get (slice_set xs i a) i ≡ Some a
set_there [] i a v e = absurd (search rules)
set_there (x ∷ xs) zero a v e = refl
set_there (x ∷ xs) (suc i) a v e = set_there xs i a v e

set_twice : {A : Type 0} (xs : List A) (i : ℕ) (a b : A) → slice_set (slice_set xs i a) i b ≡ slice_set xs i b
set_twice [] i a b = refl
set_twice (x ∷ xs) zero a b = refl
set_twice (x ∷ xs) (suc i) a b = ap (λ ys. x ∷ ys) (set_twice xs i a b)

put_there : (i : ℕ) (a : Kept) (ks : List (ℕ × Kept)) → found (put i a ks) i ≡ Some a
put_there i a [] = ap (λ b. if b then Some a else None) (eq-eqb i i refl)
put_there i a (k ∷ ks) = step (k.0 == i) (nat_lt i k.0) refl (put_there i a ks) where
  step : (b c : Bool) → (k.0 == i) ≡ b → found (put i a ks) i ≡ Some a
      → found (if b then (i, a) ∷ ks else if c then (i, a) ∷ k ∷ ks else k ∷ put i a ks) i ≡ Some a
  step true c e more = ap (λ b. if b then Some a else found ks i) (eq-eqb i i refl)
  step false true e more = ap (λ b. if b then Some a else found (k ∷ ks) i) (eq-eqb i i refl)
  step false false e more = ap (λ b. if b then Some k.1 else found (put i a ks) i) e ∙ more

put_here : (i : ℕ) (a b : Kept) (ks : List (ℕ × Kept)) → put i b ((i, a) ∷ ks) ≡ (i, b) ∷ ks
put_here i a b ks = ap (λ c. if c then (i, b) ∷ ks else if nat_lt i i then (i, b) ∷ (i, a) ∷ ks else (i, a) ∷ put i b ks) (eq-eqb i i refl)

put_twice : (i : ℕ) (a b : Kept) (ks : List (ℕ × Kept)) → put i b (put i a ks) ≡ put i b ks
put_twice i a b [] = put_here i a b []
put_twice i a b (k ∷ ks) = step (k.0 == i) (nat_lt i k.0) refl refl (put_twice i a b ks) where
  step : (c d : Bool) → (k.0 == i) ≡ c → nat_lt i k.0 ≡ d → put i b (put i a ks) ≡ put i b ks
      → put i b (if c then (i, a) ∷ ks else if d then (i, a) ∷ k ∷ ks else k ∷ put i a ks) ≡ (if c then (i, b) ∷ ks else if d then (i, b) ∷ k ∷ ks else k ∷ put i b ks)
  step true d e g more = put_here i a b ks
  step false true e g more = put_here i a b (k ∷ ks)
  step false false e g more =
      ap (λ c. if c then (i, b) ∷ put i a ks else if nat_lt i k.0 then (i, b) ∷ k ∷ put i a ks else k ∷ put i b (put i a ks)) e
      ∙ ap (λ d. if d then (i, b) ∷ k ∷ put i a ks else k ∷ put i b (put i a ks)) g
      ∙ ap (λ ls. k ∷ ls) more

-- ---- frames that changed

with_length : (h : Frame → Frame) (fs : List Frame) (k : ℕ) → length (frames_with h fs k) ≡ length fs
with_length h [] k = refl
with_length h (f ∷ fs) k = step (length fs == k) (with_length h fs k) where
  step : (b : Bool) → length (frames_with h fs k) ≡ length fs → length (if b then h f ∷ fs else f ∷ frames_with h fs k) ≡ suc (length fs)
  step true e = refl
  step false e = ap suc e

at_changed : (P : Frame → Type 0) → (P no_frame → ⊥) → (h : Frame → Frame) (fs : List Frame) (k : ℕ) → P (frame_at fs k) → frame_at (frames_with h fs k) k ≡ h (frame_at fs k)
at_changed P none h [] k p = absurd (none p)
at_changed P none h (f ∷ fs) k p = step (length fs == k) refl p (at_changed P none h fs k) where
  step : (b : Bool) → (length fs == k) ≡ b → P (if b then f else frame_at fs k) → (P (frame_at fs k) → frame_at (frames_with h fs k) k ≡ h (frame_at fs k))
      → frame_at (if b then h f ∷ fs else f ∷ frames_with h fs k) k ≡ h (if b then f else frame_at fs k)
  step true e q more = ap (λ b. if b then h f else frame_at fs k) e
  step false e q more =
      ap (λ n. if n == k then f else frame_at (frames_with h fs k) k) (with_length h fs k)
      ∙ ap (λ b. if b then f else frame_at (frames_with h fs k) k) e ∙ more q

with_twice : (g h : Frame → Frame) (fs : List Frame) (k : ℕ) → frames_with g (frames_with h fs k) k ≡ frames_with (λ f. g (h f)) fs k
with_twice g h [] k = refl
with_twice g h (f ∷ fs) k = step (length fs == k) refl (with_twice g h fs k) where
  step : (b : Bool) → (length fs == k) ≡ b → frames_with g (frames_with h fs k) k ≡ frames_with (λ f. g (h f)) fs k
      → frames_with g (if b then h f ∷ fs else f ∷ frames_with h fs k) k ≡ (if b then g (h f) ∷ fs else f ∷ frames_with (λ f. g (h f)) fs k)
  step true e more = ap (λ b. if b then g (h f) ∷ fs else h f ∷ frames_with g fs k) e
  step false e more =
      ap (λ n. if n == k then g f ∷ frames_with h fs k else f ∷ frames_with g (frames_with h fs k) k) (with_length h fs k)
      ∙ ap (λ b. if b then g f ∷ frames_with h fs k else f ∷ frames_with g (frames_with h fs k) k) e
      ∙ ap (λ gs. f ∷ gs) more

with_same : (g h : Frame → Frame) → ((f : Frame) → g f ≡ h f) → (fs : List Frame) (k : ℕ) → frames_with g fs k ≡ frames_with h fs k
with_same g h e [] k = refl
with_same g h e (f ∷ fs) k = ap (λ c. if length fs == k then c ∷ fs else f ∷ frames_with g fs k) (e f) ∙ ap (λ gs. if length fs == k then h f ∷ fs else f ∷ gs) (with_same g h e fs k)

slot_there : (fs : List Frame) (k x : ℕ) (v w : Val) → value_in (slice_get (frame_at fs k).slots x) ≡ Some v
    → value_in (slice_get (frame_at (frames_with (frame_exchanged x (Some v) w) fs k) k).slots x) ≡ Some w
slot_there fs k x v w e =
    ap (λ f. value_in (slice_get f.slots x)) (at_changed (λ f. value_in (slice_get f.slots x) ≡ Some v) (λ n. search rules) (frame_exchanged x (Some v) w) fs k e)
    ∙ ap value_in (of_value (slice_get (frame_at fs k).slots x) refl e)
  where
    of_value : (o : Option Slot) → slice_get (frame_at fs k).slots x ≡ o → value_in o ≡ Some v → slice_get (slice_set (frame_at fs k).slots x (value w)) x ≡ Some (value w)
    of_value None g n = absurd (search rules)
    of_value (Some s) g n = set_there (frame_at fs k).slots x (value w) s g

-- the object with a number
object_of : List (Option Object) → ℕ → Object
object_of os o = object_or (slice_index_or os o None)

there_in_objects : (os : List (Option Object)) (o i : ℕ) (v w : Val) → slice_get (object_of os o).fields i ≡ Some v
    → slice_get (object_of (slice_set os o (Some (with_field (object_of os o) i w))) o).fields i ≡ Some w
unfolding object_of
there_in_objects [] o i v w e = absurd (search rules)
there_in_objects (None ∷ os) zero i v w e = absurd (search rules)
there_in_objects (Some b ∷ os) zero i v w e = set_there b.fields i w v e
there_in_objects (b ∷ os) (suc o) i v w e = there_in_objects os o i v w e

objects_twice : (os : List (Option Object)) (o i : ℕ) (v w : Val)
    → slice_set (slice_set os o (Some (with_field (object_of os o) i v))) o (Some (with_field (object_of (slice_set os o (Some (with_field (object_of os o) i v))) o) i w))
    ≡ slice_set os o (Some (with_field (object_of os o) i w))
unfolding object_of
objects_twice [] o i v w = refl
objects_twice (b ∷ os) zero i v w = ap (λ (fs : List Val). Some (record (object_or b) { fields = fs }) ∷ os) (set_twice (object_or b).fields i v w)
objects_twice (b ∷ os) (suc o) i v w = ap (λ (bs : List (Option Object)). b ∷ bs) (objects_twice os o i v w)

there_in_fields : (m : Memory) (o i : ℕ) (v w : Val) → root_value m (in_fields o i) ≡ Some v → root_value (with_root m (in_fields o i) w) (in_fields o i) ≡ Some w
unfolding object_of
there_in_fields m o i v w e = there_in_objects m.objects o i v w e

twice_in_fields : (m : Memory) (o i : ℕ) (v w : Val) → with_root (with_root m (in_fields o i) v) (in_fields o i) w ≡ with_root m (in_fields o i) w
unfolding object_of
twice_in_fields m o i v w = ap (λ (bs : List (Option Object)). record m { objects = bs }) (objects_twice m.objects o i v w)

there_in_project : (m : Memory) (x : ℕ) (v w : Val) → root_value m (in_project x) ≡ Some v → root_value (with_root m (in_project x) w) (in_project x) ≡ Some w
there_in_project m x v w e = set_there m.shared x w v e

there_in_frame : (m : Memory) (k x : ℕ) (v w : Val) → root_value m (in_frame k x) ≡ Some v → root_value (with_root m (in_frame k x) w) (in_frame k x) ≡ Some w
there_in_frame m k x v w e = ap (λ fs. value_in (slice_get (frame_at fs k).slots x)) (sym (slot_changed x v w m.frames k)) ∙ slot_there m.frames k x v w e

there_in_block : (m : Memory) (k i : ℕ) (v w : Val) → root_value m (in_block k i) ≡ Some v → root_value (with_root m (in_block k i) w) (in_block k i) ≡ Some w
there_in_block m k i v w e =
    ap (λ fs. value_kept (found (frame_at fs k).keeps i)) (sym (kept_changed i w m.frames k))
    ∙ ap (λ f. value_kept (found f.keeps i)) (at_changed (λ f. value_kept (found f.keeps i) ≡ Some v) (λ n. search rules) (frame_keeping i (only w)) m.frames k e)
    ∙ ap value_kept (put_there i (only w) (frame_at m.frames k).keeps)

root_twice : (m : Memory) (r : Root) (v w : Val) → with_root (with_root m r v) r w ≡ with_root m r w
root_twice m (in_project x) v w = ap (λ xs. record m { shared = xs }) (set_twice m.shared x v w)
root_twice m (in_fields o i) v w = twice_in_fields m o i v w
root_twice m (in_frame k x) v w =
    ap (λ fs. record m { frames = fs })
    (ap (λ fs. with_slot fs k x (value w)) (sym (slot_changed x v v m.frames k))
    ∙ sym (slot_changed x v w (frames_with (frame_exchanged x (Some v) v) m.frames k) k)
    ∙ with_twice (frame_exchanged x (Some v) w) (frame_exchanged x (Some v) v) m.frames k
    ∙ with_same (λ f. frame_exchanged x (Some v) w (frame_exchanged x (Some v) v f)) (frame_exchanged x (Some v) w) (λ f. ap (λ xs. record f { slots = xs }) (set_twice f.slots x (value v) (value w))) m.frames k
    ∙ slot_changed x v w m.frames k)
root_twice m (in_block k i) v w =
    ap (λ fs. record m { frames = fs })
    (ap (λ fs. with_kept fs k i (only w)) (sym (kept_changed i v m.frames k))
    ∙ sym (kept_changed i w (frames_with (frame_keeping i (only v)) m.frames k) k)
    ∙ with_twice (frame_keeping i (only w)) (frame_keeping i (only v)) m.frames k
    ∙ with_same (λ f. frame_keeping i (only w) (frame_keeping i (only v) f)) (frame_keeping i (only w)) (λ f. ap (λ ks. record f { keeps = ks }) (put_twice i (only v) (only w) f.keeps)) m.frames k
    ∙ kept_changed i w m.frames k)
root_twice m (in_object o) v w = refl
root_twice m (in_item u) v w = refl

-- a value takes the place of one that was put there: as if it came at once
here_again : (m : Memory) (r : Root) (w x : Val) → root_value (with_root m r w) r ≡ Some w
    → root_exchanged (with_root m r w) r (root_value (with_root m r w) r) x ≡ with_root m r x
here_again m r w x e = ap (λ o. root_exchanged (with_root m r w) r o x) e ∙ root_twice m r w x

pub root_again : (m : Memory) (r : Root) (v w x : Val) → root_value m r ≡ Some v
    → root_exchanged (with_root m r w) r (root_value (with_root m r w) r) x ≡ with_root m r x
root_again m (in_project y) v w x e = here_again m (in_project y) w x (there_in_project m y v w e)
root_again m (in_fields o i) v w x e = here_again m (in_fields o i) w x (there_in_fields m o i v w e)
root_again m (in_frame k y) v w x e = here_again m (in_frame k y) w x (there_in_frame m k y v w e)
root_again m (in_block k i) v w x e = here_again m (in_block k i) w x (there_in_block m k i v w e)
root_again m (in_object o) v w x e = refl
root_again m (in_item u) v w x e = refl
