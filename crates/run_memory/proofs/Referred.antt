-- An object is referred to where it is counted at least once: in parts, in any order.
use Rattle.std.proofs.Common.{◌≡◌, ℕ, zero, suc, ◌+◌, ◌-◌, ◌<◌, ◌≤◌, List, [], ◌∷◌, ◌++◌, drop, get_or, length, map, reverse, refl, ap, sym, subst, ◌∙◌, add-one, arith, eq-eqb}
use Rattle.std.specs.Prelude.{Bool, true, false, not, ◌==◌, ◌||◌, if◌then◌else◌, Option, Some, None, slice_index_or, take}
use Rattle.std.proofs.lemmas.Bool.{ne_eqb}
use Rattle.std.proofs.Math.Bool.{or_assoc, or_comm}
use Rattle.std.proofs.lemmas.Grind.{reverse_onto}
use Rattle.std.proofs.lemmas.List.{reverse-append, map-append, take_all}
use Rattle.vba_values.specs.declared.value.Value.{Value}
use Rattle.vba_values.specs.View.{view, views}
use Rattle.run_memory.specs.declared.frame.Frame.{Frame}
use Rattle.run_memory.specs.declared.frame.Kept.{Kept}
use Rattle.run_memory.specs.declared.frame.Slot.{Slot}
use Rattle.run_memory.specs.View.{frame_view, kept_at_view, kept_view, slot_view}
use Rattle.run_memory.specs.Referred.{occurs, frame_refers, any_frame_refers, any_object_refers, is_referred}
use Rattle.vba_values.specs.Val.{Val}
use Rattle.vba_meaning.specs.Memory as plain
use Rattle.vba_meaning.specs.References.{is_last, times, times_in_frames, times_in_objects, looks, objects_in, objects_in_slot, objects_in_slots, objects_in_vals, objects_in_values, objects_kept, kept_value}

occurs_append : (o : ℕ) (xs ys : List ℕ) → occurs o (xs ++ ys) ≡ occurs o xs || occurs o ys
occurs_append o [] ys = refl
occurs_append o (x ∷ xs) ys = ap (λ b. o == x || b) (occurs_append o xs ys) ∙ sym (or_assoc (o == x) (occurs o xs) (occurs o ys))

pub occurs_reverse : (o : ℕ) (xs : List ℕ) → occurs o (reverse xs) ≡ occurs o xs
occurs_reverse o [] = refl
occurs_reverse o (x ∷ xs) =
    ap (occurs o) (reverse_onto xs x [])
    ∙ occurs_append o (reverse xs) (x ∷ [])
    ∙ or_comm (occurs o (reverse xs)) (o == x || false)
    ∙ or_assoc (o == x) false (occurs o (reverse xs))
    ∙ ap (λ b. o == x || b) (occurs_reverse o xs)

-- ---- slices by their first item, and by their last

begins : {A : Type 0} (xs : List A) (x : A) → 1 ≤ length xs → x ≡ slice_index_or xs 0 x → xs ≡ x ∷ drop 1 xs
begins [] x h is = absurd (omega arith)
begins (y ∷ xs) x h is = ap (λ z. z ∷ xs) (sym is)

ends : {A : Type 0} (xs : List A) (x : A) → 1 ≤ length xs → x ≡ slice_index_or xs (length xs - 1) x → xs ≡ take (length xs - 1) xs ++ x ∷ []
ends [] x h is = absurd (omega arith)
ends (y ∷ []) x h is = rw is refl
ends (y ∷ z ∷ xs) x h is =
    let count : length (y ∷ z ∷ xs) - 1 ≡ suc (length (z ∷ xs) - 1) = omega arith in
    rw count (ap (λ ys. y ∷ ys) (ends (z ∷ xs) x (omega arith) (rw count at is)))

-- what stands behind the first is all of the rest
pub rest_is : {A : Type 0} (xs : List A) → take (length xs - 1) (drop 1 xs) ≡ drop 1 xs
rest_is [] = refl
rest_is (x ∷ xs) = take_all (length (x ∷ xs) - 1) xs (omega arith)

pub slots_first : (o : ℕ) (xs : List Slot) (x : Slot) → 1 ≤ length xs → x ≡ slice_index_or xs 0 x
    → occurs o (objects_in_slots (map slot_view xs)) ≡ occurs o (objects_in_slot (slot_view x)) || occurs o (objects_in_slots (map slot_view (drop 1 xs)))
slots_first o xs x h is =
    ap (λ ys. occurs o (objects_in_slots (map slot_view ys))) (begins xs x h is)
    ∙ occurs_append o (objects_in_slot (slot_view x)) (objects_in_slots (map slot_view (drop 1 xs)))

pub keeps_first : (o : ℕ) (xs : List (ℕ × Kept)) (x : ℕ × Kept) → 1 ≤ length xs → x ≡ slice_index_or xs 0 x
    → occurs o (objects_kept (map kept_at_view xs)) ≡ occurs o (objects_in (kept_value (kept_view x.1))) || occurs o (objects_kept (map kept_at_view (drop 1 xs)))
keeps_first o xs x h is =
    ap (λ ys. occurs o (objects_kept (map kept_at_view ys))) (begins xs x h is)
    ∙ occurs_append o (objects_in (kept_value (kept_view x.1))) (objects_kept (map kept_at_view (drop 1 xs)))

-- ---- values from the last to the first

in_values : (o : ℕ) (vs : List Val) (v : Val) → occurs o (objects_in_values (vs ++ v ∷ [])) ≡ occurs o (objects_in v) || occurs o (objects_in_values vs)
in_values o [] v = occurs_append o (objects_in v) []
in_values o (w ∷ vs) v =
    let a = occurs o (objects_in w) in
    let b = occurs o (objects_in v) in
    let c = occurs o (objects_in_values vs) in
    occurs_append o (objects_in w) (objects_in_values (vs ++ v ∷ []))
    ∙ ap (λ x. a || x) (in_values o vs v ∙ or_comm b c)
    ∙ sym (or_assoc a c b)
    ∙ or_comm (a || c) b
    ∙ ap (λ x. b || x) (sym (occurs_append o (objects_in w) (objects_in_values vs)))

pub values_last : (o : ℕ) (xs : List Value) (x : Value) → 1 ≤ length xs → x ≡ slice_index_or xs (length xs - 1) x
    → occurs o (objects_in_values (map view xs)) ≡ occurs o (objects_in (view x)) || occurs o (objects_in_values (map view (take (length xs - 1) xs)))
values_last o xs x h is =
    let before = take (length xs - 1) xs in
    ap (λ ys. occurs o (objects_in_values (map view ys))) (ends xs x h is)
    ∙ ap (λ vs. occurs o (objects_in_values vs)) (map-append view before (x ∷ []))
    ∙ in_values o (map view before) (view x)

pub frames_last : (o : ℕ) (xs : List Frame) (x : Frame)
    → any_frame_refers o (map frame_view (reverse (xs ++ x ∷ []))) ≡ frame_refers o (frame_view x) || any_frame_refers o (map frame_view (reverse xs))
frames_last o xs x = ap (λ ys. any_frame_refers o (map frame_view ys)) (reverse-append xs (x ∷ []))

-- ---- values inside

inside_more : (o : ℕ) (xs : List Value) (n : ℕ) (d : Value) → n < length xs
    → occurs o (objects_in_vals (views (drop n xs))) ≡ occurs o (objects_in (view (get_or xs n d))) || occurs o (objects_in_vals (views (drop (suc n) xs)))
inside_more o [] n d h = absurd (omega arith)
inside_more o (x ∷ xs) zero d h = occurs_append o (objects_in (view x)) (objects_in_vals (views xs))
inside_more o (x ∷ xs) (suc n) d h = inside_more o xs n d (omega arith)

pub inside_next : (o : ℕ) (xs : List Value) (n : ℕ) (d : Value) → n < length xs
    → occurs o (objects_in_vals (views (drop n xs))) ≡ occurs o (objects_in (view (get_or xs n d))) || occurs o (objects_in_vals (views (drop (n + 1) xs)))
inside_next o xs n d h =
    inside_more o xs n d h ∙ ap (λ m. occurs o (objects_in (view (get_or xs n d))) || occurs o (objects_in_vals (views (drop m xs)))) (sym (add-one n))

-- ---- what the counts tell

abbrev Counted : Bool → ℕ → Type 0
Counted true n = 1 ≤ n
Counted false n = n ≡ 0

both : (p q : Bool) (a b : ℕ) → Counted p a → Counted q b → Counted (p || q) (a + b)
both true q a b h k = omega arith
both false true a b h k = omega arith
both false false a b h k = omega arith

four : (p q r s : Bool) (a b c d : ℕ) → Counted p a → Counted q b → Counted r c → Counted s d → Counted (p || (q || (r || s))) (a + b + c + d)
four p q r s a b c d h i j k =
    let e : a + (b + (c + d)) ≡ a + b + c + d = omega arith in
    subst (Counted (p || (q || (r || s)))) e
    (both p (q || (r || s)) a (b + (c + d)) h (both q (r || s) b (c + d) i (both r s c d j k)))

one : (b : Bool) → Counted b (if b then 1 else 0)
one true = omega arith
one false = refl

among : (o : ℕ) (xs : List ℕ) → Counted (occurs o xs) (times o xs)
among o [] = refl
among o (x ∷ xs) = both (o == x) (occurs o xs) (if o == x then 1 else 0) (times o xs) (one (o == x)) (among o xs)

in_frames : (o : ℕ) (fs : List plain.Frame) → Counted (any_frame_refers o fs) (times_in_frames o fs)
in_frames o [] = refl
in_frames o (f ∷ fs) =
    both (frame_refers o f) (any_frame_refers o fs) (times o (objects_in_slots f.slots) + times o (objects_kept f.keeps) + times o (objects_in f.me) + times o f.held) (times_in_frames o fs)
    (four (occurs o (objects_in_slots f.slots)) (occurs o (objects_kept f.keeps)) (occurs o (objects_in f.me)) (occurs o f.held)
    (times o (objects_in_slots f.slots)) (times o (objects_kept f.keeps)) (times o (objects_in f.me)) (times o f.held)
    (among o (objects_in_slots f.slots)) (among o (objects_kept f.keeps)) (among o (objects_in f.me)) (among o f.held))
    (in_frames o fs)

in_objects : (o : ℕ) (bs : List (Option plain.Object)) → Counted (any_object_refers o bs) (times_in_objects o bs)
in_objects o [] = refl
in_objects o (None ∷ bs) = in_objects o bs
in_objects o (Some b ∷ bs) =
    both (occurs o (objects_in_values b.fields)) (any_object_refers o bs) (times o (objects_in_values b.fields)) (times_in_objects o bs) (among o (objects_in_values b.fields)) (in_objects o bs)

told : (p : Bool) (n : ℕ) → Counted p n → n == 0 ≡ not p
told true n h = ne_eqb n 0 (λ e. omega arith)
told false n h = eq-eqb n 0 h

all_parts : (m : plain.Memory) (o : ℕ) → Counted (is_referred m o) (looks m o)
all_parts m o =
    let a = times_in_frames o m.frames in
    let b = times o m.waiting in
    let c = times o (objects_in_values m.shared) in
    let d = times_in_objects o m.objects in
    let e : a + b + c + d ≡ c + a + d + b = omega arith in
    subst (Counted (is_referred m o)) e
    (four (any_frame_refers o m.frames) (occurs o m.waiting) (occurs o (objects_in_values m.shared)) (any_object_refers o m.objects) a b c d
    (in_frames o m.frames) (among o m.waiting) (among o (objects_in_values m.shared)) (in_objects o m.objects))

pub last : (m : plain.Memory) (o : ℕ) → is_last m o ≡ not (is_referred m o)
last m o = told (is_referred m o) (looks m o) (all_parts m o)
