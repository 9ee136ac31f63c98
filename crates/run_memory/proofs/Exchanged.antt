-- Values that take the place of others.
use Rattle.std.proofs.Common.{◌≡◌, ℕ, zero, suc, ◌<◌, ◌≤◌, ◌++◌, List, [], ◌∷◌, length, reverse, map, get_or, refl, sym, ap, ◌∙◌, arith, eq-eqb}
use Rattle.std.specs.Prelude.{Bool, true, false, Option, Some, None, slice_get, slice_set, ◌==◌, if◌then◌else◌}
use Rattle.std.proofs.lemmas.Grind.{reverse_onto}
use Rattle.std.proofs.lemmas.List.{map-append, length-map, length-reverse}
use Rattle.std.proofs.Math.Dec.{eqb-suc-zero, eqb-zero-suc, eqb-suc-suc}
use Rattle.std.proofs.lemmas.Bool.{ne_eqb}
use Rattle.vba_values.specs.declared.value.Value.{Value}
use Rattle.vba_values.specs.View.{view}
use Rattle.vba_values.specs.Val.{Val}
use Rattle.run_memory.specs.declared.frame.Frame.{Frame}
use Rattle.run_memory.specs.declared.frame.Slot.{Slot}
use Rattle.run_memory.specs.declared.frame.Slot.TheVariants as slot
use Rattle.run_memory.specs.View.{frame_view, slot_view}
use Rattle.run_memory.specs.Exchanges.{slot_exchanged, slots_exchanged, values_exchanged, frame_exchanged, frames_with, root_exchanged}
use Rattle.run_memory.specs.Keeps.{frame_keeping}
use Rattle.vba_meaning.specs.Paths.{in_frame, in_project}
use Rattle.vba_meaning.specs.Memory as plain

slots_more : (x : plain.Slot) (xs : List plain.Slot) (i : ℕ) (old : Option Val) (w : Val) → x ∷ slots_exchanged xs i old w ≡ slots_exchanged (x ∷ xs) (suc i) old w
slots_more x xs i None w = refl
slots_more x xs i (Some v) w = refl

slot_first : (x s : Slot) (xs : List Slot) (o : Option Val) (w : Val) → o ≡ plain.value_in (Some (slot_view x)) → slot_view s ≡ slot_exchanged (slot_view x) w
    → slot_view s ∷ map slot_view xs ≡ slots_exchanged (slot_view x ∷ map slot_view xs) zero o w
slot_first (slot.Value v) s xs o w was e = rw was (ap (λ t. t ∷ map slot_view xs) e)
slot_first (slot.Path p) s xs o w was e = rw was (ap (λ t. t ∷ map slot_view xs) e)

pub slot_set : (xs : List Slot) (i : ℕ) (s d : Slot) (o : Option Val) (w : Val) → i < length xs
    → o ≡ plain.value_in (Some (slot_view (get_or xs i d))) → slot_view s ≡ slot_exchanged (slot_view (get_or xs i d)) w
    → map slot_view (slice_set xs i s) ≡ slots_exchanged (map slot_view xs) i o w
slot_set [] i s d o w h was e = absurd (omega arith)
slot_set (x ∷ xs) zero s d o w h was e = slot_first x s xs o w was e
slot_set (x ∷ xs) (suc i) s d o w h was e =
    ap (λ ys. slot_view x ∷ ys) (slot_set xs i s d o w (omega arith) was e)
    ∙ slots_more (slot_view x) (map slot_view xs) i o w

pub slot_past : (xs : List Slot) (i : ℕ) → length xs ≤ i → plain.value_in (slice_get (map slot_view xs) i) ≡ None
slot_past [] i h = refl
slot_past (x ∷ xs) zero h = absurd (omega arith)
slot_past (x ∷ xs) (suc i) h = slot_past xs i (omega arith)

pub value_set : (xs : List Value) (i : ℕ) (s : Value) → map view (slice_set xs i s) ≡ slice_set (map view xs) i (view s)
value_set [] i s = refl
value_set (x ∷ xs) zero s = refl
value_set (x ∷ xs) (suc i) s = ap (λ ys. view x ∷ ys) (value_set xs i s)

pub value_past : (xs : List Value) (i : ℕ) → length xs ≤ i → slice_get (map view xs) i ≡ None
value_past [] i h = refl
value_past (x ∷ xs) zero h = absurd (omega arith)
value_past (x ∷ xs) (suc i) h = value_past xs i (omega arith)

pub value_read : (xs : List Value) (i : ℕ) (d : Value) → i < length xs → slice_get (map view xs) i ≡ Some (view (get_or xs i d))
value_read [] i d h = absurd (omega arith)
value_read (x ∷ xs) zero d h = refl
value_read (x ∷ xs) (suc i) d h = value_read xs i d (omega arith)

pub slot_read : (xs : List Slot) (i : ℕ) (d : Slot) → i < length xs → slice_get (map slot_view xs) i ≡ Some (slot_view (get_or xs i d))
slot_read [] i d h = absurd (omega arith)
slot_read (x ∷ xs) zero d h = refl
slot_read (x ∷ xs) (suc i) d h = slot_read xs i d (omega arith)

-- ---- frames

length_more : (fs : List plain.Frame) (g : plain.Frame) → length (fs ++ g ∷ []) ≡ suc (length fs)
length_more [] g = refl
length_more (f ∷ fs) g = ap suc (length_more fs g)

with_last : (change : plain.Frame → plain.Frame) (fs : List plain.Frame) (g : plain.Frame) → frames_with change (fs ++ g ∷ []) zero ≡ fs ++ change g ∷ []
with_last change [] g = refl
with_last change (f ∷ fs) g =
    ap (λ n. if n == zero then change f ∷ fs ++ g ∷ [] else f ∷ frames_with change (fs ++ g ∷ []) zero) (length_more fs g)
    ∙ ap (λ b. if b then change f ∷ fs ++ g ∷ [] else f ∷ frames_with change (fs ++ g ∷ []) zero) (eqb-suc-zero (length fs))
    ∙ ap (λ hs. f ∷ hs) (with_last change fs g)

if_append : (b : Bool) (xs ys : List plain.Frame) (g : plain.Frame) → (if b then xs ++ g ∷ [] else ys ++ g ∷ []) ≡ (if b then xs else ys) ++ g ∷ []
if_append true xs ys g = refl
if_append false xs ys g = refl

with_more : (change : plain.Frame → plain.Frame) (fs : List plain.Frame) (g : plain.Frame) (k : ℕ) → frames_with change (fs ++ g ∷ []) (suc k) ≡ frames_with change fs k ++ g ∷ []
with_more change [] g k = ap (λ b. if b then change g ∷ [] else g ∷ []) (eqb-zero-suc k)
with_more change (f ∷ fs) g k =
    ap (λ n. if n == suc k then change f ∷ fs ++ g ∷ [] else f ∷ frames_with change (fs ++ g ∷ []) (suc k)) (length_more fs g)
    ∙ ap (λ b. if b then change f ∷ fs ++ g ∷ [] else f ∷ frames_with change (fs ++ g ∷ []) (suc k)) (eqb-suc-suc (length fs) k)
    ∙ ap (λ hs. if length fs == k then change f ∷ fs ++ g ∷ [] else f ∷ hs) (with_more change fs g k)
    ∙ if_append (length fs == k) (change f ∷ fs) (f ∷ frames_with change fs k) g

turned : (c : Frame) (cs : List Frame) → map frame_view (reverse (c ∷ cs)) ≡ map frame_view (reverse cs) ++ frame_view c ∷ []
turned c cs = ap (map frame_view) (reverse_onto cs c []) ∙ map-append frame_view (reverse cs) (c ∷ [])

pub below_set : (change : plain.Frame → plain.Frame) (cs : List Frame) (k : ℕ) (c d : Frame) → k < length cs → frame_view c ≡ change (frame_view (get_or cs k d))
    → map frame_view (reverse (slice_set cs k c)) ≡ frames_with change (map frame_view (reverse cs)) k
below_set change [] k c d h e = absurd (omega arith)
below_set change (b ∷ cs) zero c d h e =
    turned c cs ∙ ap (λ f. map frame_view (reverse cs) ++ f ∷ []) e
    ∙ sym (with_last change (map frame_view (reverse cs)) (frame_view b))
    ∙ sym (ap (λ fs. frames_with change fs zero) (turned b cs))
below_set change (b ∷ cs) (suc k) c d h e =
    turned b (slice_set cs k c) ∙ ap (λ fs. fs ++ frame_view b ∷ []) (below_set change cs k c d (omega arith) e)
    ∙ sym (with_more change (map frame_view (reverse cs)) (frame_view b) k)
    ∙ sym (ap (λ fs. frames_with change fs (suc k)) (turned b cs))

pub nothing_changed : (x : ℕ) (w : Val) (fs : List plain.Frame) (k : ℕ) → frames_with (frame_exchanged x None w) fs k ≡ fs
nothing_changed x w [] k = refl
nothing_changed x w (f ∷ fs) k = same (length fs == k) (nothing_changed x w fs k) where
  same : (b : Bool) → frames_with (frame_exchanged x None w) fs k ≡ fs → (if b then f ∷ fs else f ∷ frames_with (frame_exchanged x None w) fs k) ≡ f ∷ fs
  same true e = refl
  same false e = ap (λ gs. f ∷ gs) e

pub slot_changed : (x : ℕ) (v w : Val) (fs : List plain.Frame) (k : ℕ) → frames_with (frame_exchanged x (Some v) w) fs k ≡ plain.with_slot fs k x (plain.value w)
slot_changed x v w [] k = refl
slot_changed x v w (f ∷ fs) k = ap (λ gs. if length fs == k then record f { slots = slice_set f.slots x (plain.value w) } ∷ fs else f ∷ gs) (slot_changed x v w fs k)

pub with_top : (change : plain.Frame → plain.Frame) (f : plain.Frame) (fs : List plain.Frame) (k : ℕ) → k ≡ length fs → frames_with change (f ∷ fs) k ≡ change f ∷ fs
with_top change f fs k e = ap (λ b. if b then change f ∷ fs else f ∷ frames_with change fs k) (eq-eqb (length fs) k (sym e))

pub with_caller : (change : plain.Frame → plain.Frame) (f : Frame) (cs : List Frame) (k : ℕ) → (k ≡ length cs → ⊥)
    → frames_with change (frame_view f ∷ map frame_view (reverse cs)) k ≡ frame_view f ∷ frames_with change (map frame_view (reverse cs)) k
with_caller change f cs k h =
    let below = map frame_view (reverse cs) in
    let size : length below ≡ length cs = length-map (reverse cs) frame_view ∙ length-reverse cs in
    ap (λ b. if b then change (frame_view f) ∷ below else frame_view f ∷ frames_with change below k) (ne_eqb (length below) k (λ e. h (sym e ∙ size)))

pub top_changed : (change : plain.Frame → plain.Frame) (f : Frame) (cs : List Frame) (k : ℕ) → k ≡ length cs
    → frames_with change (frame_view f ∷ map frame_view (reverse cs)) k ≡ change (frame_view f) ∷ map frame_view (reverse cs)
top_changed change f cs k e = with_top change (frame_view f) (map frame_view (reverse cs)) k (e ∙ sym (length-map (reverse cs) frame_view ∙ length-reverse cs))

past_end : (change : plain.Frame → plain.Frame) (fs : List plain.Frame) (k : ℕ) → length fs ≤ k → frames_with change fs k ≡ fs
past_end change [] k h = refl
past_end change (f ∷ fs) k h =
    ap (λ b. if b then change f ∷ fs else f ∷ frames_with change fs k) (ne_eqb (length fs) k (λ e. omega arith))
    ∙ ap (λ gs. f ∷ gs) (past_end change fs k (omega arith))

pub past_callers : (change : plain.Frame → plain.Frame) (cs : List Frame) (k : ℕ) → length cs ≤ k → frames_with change (map frame_view (reverse cs)) k ≡ map frame_view (reverse cs)
past_callers change cs k h =
    let size : length (map frame_view (reverse cs)) ≡ length cs = length-map (reverse cs) frame_view ∙ length-reverse cs in
    past_end change (map frame_view (reverse cs)) k (omega arith)

pub kept_changed : (i : ℕ) (w : Val) (fs : List plain.Frame) (k : ℕ) → frames_with (frame_keeping i (plain.only w)) fs k ≡ plain.with_kept fs k i (plain.only w)
kept_changed i w [] k = refl
kept_changed i w (f ∷ fs) k = ap (λ gs. if length fs == k then frame_keeping i (plain.only w) f ∷ fs else f ∷ gs) (kept_changed i w fs k)

pub local_exchanged : (m : plain.Memory) (k x : ℕ) (o : Option Val) (w : Val) → record m { frames = frames_with (frame_exchanged x o w) m.frames k } ≡ root_exchanged m (in_frame k x) o w
local_exchanged m k x None w = ap (λ fs. record m { frames = fs }) (nothing_changed x w m.frames k)
local_exchanged m k x (Some v) w = ap (λ fs. record m { frames = fs }) (slot_changed x v w m.frames k)

pub shared_exchanged : (m : plain.Memory) (x : ℕ) (o : Option Val) (w : Val) → record m { shared = values_exchanged m.shared x o w } ≡ root_exchanged m (in_project x) o w
shared_exchanged m x None w = refl
shared_exchanged m x (Some v) w = refl
