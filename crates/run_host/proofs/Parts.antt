-- Members of the host by the parts of their definitions.
use Rattle.std.proofs.Common.{◌≡◌, ℕ, ◌≤◌, ◌<◌, ◌-◌, zero, suc, List, [], ◌∷◌, ◌++◌, length, true, false, refl, sym, ap, ◌∙◌, eq-eqb, arith}
use Rattle.std.specs.Prelude.{ℤ, ◌==◌, Some, None, Result, map, slice_index_or, take}
use Rattle.vba_values.specs.declared.fault.Bad.{Bad}
use Rattle.vba_values.specs.declared.types.WholeKind.{WholeKind}
use Rattle.vba_values.specs.declared.types.WholeKind.TheVariants as kind
use Rattle.vba_values.specs.declared.object.HostRef.{HostRef}
use Rattle.vba_values.specs.declared.object.ObjRef.{ObjRef}
use Rattle.vba_values.specs.Val.{Val, empty, null, missing, boolean, whole, currency, text, object, array, udt}
use Rattle.vba_values.specs.Whole.{fits}
use Rattle.sheet_host.specs.declared.area.Area.{Area}
use Rattle.sheet_host.specs.AreaCells.{area_around}
use Rattle.sheet_host.specs.Members.{number_of}
use Rattle.bound_project.specs.Project.{Declarations}
use Rattle.sheet_host.specs.declared.members.HostMember.{HostMember}
use Rattle.sheet_host.specs.declared.members.HostMember.TheVariants.{Read, Write}
use Rattle.vba_meaning.specs.Memory.{Memory}
use Rattle.vba_meaning.specs.Effects.{Effect, Fine, Bad-at, Out, Tell, on_fine, plain, plain_reference, slot_value, slot_values}
use Rattle.vba_meaning.specs.Host.{are_places, area_by, area_found, as_given, cell_found, cells_found, item_by, long_of, member_by, member_value, range_between, range_found, sheet_found, takes}
use Rattle.run_memory.specs.declared.frame.Slot.{Slot}
use Rattle.run_memory.specs.View.{slot_view}
use Rattle.run_host.specs.declared.assigning.Writes.TheVariants.{Through}
use Rattle.run_host.specs.Members.{around, is_missing, object_in, range_at, takes_none, two_numbers, way_of}

-- ---- effects in order

on_fine_all : {A B C : Type 0} (e : Effect A) (f : A → Memory → Effect B) (g : B → Memory → Effect C)
    → on_fine (on_fine e f) g ≡ on_fine e (λ v m. on_fine (f v m) g)
on_fine_all (Fine v m) f g = refl
on_fine_all (Bad-at n m) f g = refl
on_fine_all (Out w m) f g = refl
on_fine_all (Tell es e) f g = ap (λ d. Tell es d) (on_fine_all e f g)

on_fine_same : {A B : Type 0} (e : Effect A) (f g : A → Memory → Effect B) → ((v : A) (m : Memory) → f v m ≡ g v m) → on_fine e f ≡ on_fine e g
on_fine_same (Fine v m) f g h = h v m
on_fine_same (Bad-at n m) f g h = refl
on_fine_same (Out w m) f g h = refl
on_fine_same (Tell es e) f g h = ap (λ d. Tell es d) (on_fine_same e f g h)

-- an area by two numbers
pub by_two : (f : ℤ → ℤ → Result Area Bad) (vs : List Val) (m : Memory)
    → area_by f vs m ≡ on_fine (two_numbers vs m) (λ z m1. area_found (f z.0 z.1) m1)
by_two f [] m = refl
by_two f (v ∷ []) m = refl
by_two f (r ∷ c ∷ []) m = sym (
    on_fine_all (long_of r m) (λ y m1. on_fine (long_of c m1) (λ x m2. Fine (y, x) m2)) (λ z m1. area_found (f z.0 z.1) m1)
    ∙ on_fine_same (long_of r m) (λ y m1. on_fine (on_fine (long_of c m1) (λ x m2. Fine (y, x) m2)) (λ z m3. area_found (f z.0 z.1) m3))
    (λ y m1. on_fine (long_of c m1) (λ x m2. area_found (f y x) m2))
    (λ y m1. on_fine_all (long_of c m1) (λ x m2. Fine (y, x) m2) (λ z m3. area_found (f z.0 z.1) m3)))
by_two f (r ∷ c ∷ v ∷ vs) m = refl

-- ---- Range

pub range_missing : (s : ℕ) (v : Val) (vs : List Val) (m : Memory) → is_missing v ≡ true → range_found s (v ∷ vs) m ≡ Bad-at 449 m
range_missing s missing vs m h = refl
range_missing s empty vs m h = cc
range_missing s null vs m h = cc
range_missing s (boolean b) vs m h = cc
range_missing s (whole k z) vs m h = cc
range_missing s (currency n) vs m h = cc
range_missing s (text t) vs m h = cc
range_missing s (object o) vs m h = cc
range_missing s (array b e i) vs m h = cc
range_missing s (udt n f) vs m h = cc

pub range_one : (s : ℕ) (v : Val) (m : Memory) → is_missing v ≡ false → range_found s (v ∷ []) m ≡ range_at s v m
range_one s missing m h = cc
range_one s empty m h = refl
range_one s null m h = refl
range_one s (boolean b) m h = refl
range_one s (whole k z) m h = refl
range_one s (currency n) m h = refl
range_one s (text t) m h = refl
range_one s (object o) m h = refl
range_one s (array b e i) m h = refl
range_one s (udt n f) m h = refl

pub range_two : (s : ℕ) (v w : Val) (m : Memory) → is_missing v ≡ false → range_found s (v ∷ w ∷ []) m ≡ range_between s v w m
range_two s missing w m h = cc
range_two s empty w m h = refl
range_two s null w m h = refl
range_two s (boolean b) w m h = refl
range_two s (whole k z) w m h = refl
range_two s (currency n) w m h = refl
range_two s (text t) w m h = refl
range_two s (object o) w m h = refl
range_two s (array b e i) w m h = refl
range_two s (udt n f) w m h = refl

pub range_many : (s : ℕ) (v : Val) (vs : List Val) (m : Memory) → is_missing v ≡ false → 2 ≤ length vs → range_found s (v ∷ vs) m ≡ Bad-at 450 m
range_many s v [] m h k = absurd (omega arith)
range_many s v (w ∷ []) m h k = absurd (omega arith)
range_many s missing (w ∷ x ∷ vs) m h k = cc
range_many s empty (w ∷ x ∷ vs) m h k = refl
range_many s null (w ∷ x ∷ vs) m h k = refl
range_many s (boolean b) (w ∷ x ∷ vs) m h k = refl
range_many s (whole i z) (w ∷ x ∷ vs) m h k = refl
range_many s (currency n) (w ∷ x ∷ vs) m h k = refl
range_many s (text t) (w ∷ x ∷ vs) m h k = refl
range_many s (object o) (w ∷ x ∷ vs) m h k = refl
range_many s (array b e i) (w ∷ x ∷ vs) m h k = refl
range_many s (udt n f) (w ∷ x ∷ vs) m h k = refl

-- ---- by how many arguments there are

pub slot_count : (xs : List Slot) → length (slot_values (map slot_view xs)) ≡ length xs
slot_count [] = refl
slot_count (x ∷ xs) = ap suc (slot_count xs)

pub cells_by_some : (a : Area) (vs : List Val) (m : Memory) → 1 ≤ length vs → cells_found a vs m ≡ cell_found a vs m
cells_by_some a [] m h = absurd (omega arith)
cells_by_some a (v ∷ vs) m h = refl

pub by_two_fine : (f : ℤ → ℤ → Result Area Bad) (vs : List Val) (m : Memory) (y x : ℤ) → two_numbers vs m ≡ Fine (y, x) m
    → area_by f vs m ≡ area_found (f y x) m
by_two_fine f vs m y x is = by_two f vs m ∙ ap (λ e. on_fine e (λ z m1. area_found (f z.0 z.1) m1)) is

pub two_of_few : (vs : List Val) (m : Memory) → length vs ≤ 1 → two_numbers vs m ≡ Bad-at 449 m
two_of_few [] m h = refl
two_of_few (v ∷ []) m h = refl
two_of_few (v ∷ w ∷ vs) m h = absurd (omega arith)

pub two_of_many : (vs : List Val) (m : Memory) → 3 ≤ length vs → two_numbers vs m ≡ Bad-at 450 m
two_of_many [] m h = absurd (omega arith)
two_of_many (v ∷ []) m h = absurd (omega arith)
two_of_many (v ∷ w ∷ []) m h = absurd (omega arith)
two_of_many (v ∷ w ∷ x ∷ vs) m h = refl

pub sheet_of_many : (vs : List Val) (m : Memory) → 2 ≤ length vs → sheet_found vs m ≡ Bad-at 450 m
sheet_of_many [] m h = absurd (omega arith)
sheet_of_many (v ∷ []) m h = absurd (omega arith)
sheet_of_many (v ∷ w ∷ vs) m h = refl

pub way_by_some : (r : HostRef) (n : ℕ) (vs : List Val) → 1 ≤ length vs → way_of r (Write n) vs ≡ Through
way_by_some r n [] h = absurd (omega arith)
way_by_some r n (v ∷ vs) h = refl

-- an object gives way, and no other value
pub plain_object : (v : Val) (o : ObjRef) (m : Memory) → object_in v ≡ Some o → plain v m ≡ plain_reference o m
plain_object (object p) o m is = let same : p ≡ o = cc in rw same refl
plain_object empty o m is = cc
plain_object null o m is = cc
plain_object missing o m is = cc
plain_object (boolean b) o m is = cc
plain_object (whole k z) o m is = cc
plain_object (currency n) o m is = cc
plain_object (text t) o m is = cc
plain_object (array b e i) o m is = cc
plain_object (udt n f) o m is = cc

pub plain_other : (v : Val) (m : Memory) → object_in v ≡ None → plain v m ≡ Fine v m
plain_other (object p) m is = cc
plain_other empty m is = refl
plain_other null m is = refl
plain_other missing m is = refl
plain_other (boolean b) m is = refl
plain_other (whole k z) m is = refl
plain_other (currency n) m is = refl
plain_other (text t) m is = refl
plain_other (array b e i) m is = refl
plain_other (udt n f) m is = refl

-- a whole number that a Long can be is that one
pub whole_itself : (k : WholeKind) (z : ℤ) (m : Memory) → fits kind.Long z ≡ true → long_of (whole k z) m ≡ Fine z m
whole_itself k z m is = rw is refl

pub spanned_joined : (s : ℕ) (a b : Area) (m : Memory) → a.sheet.0 ≡ s → b.sheet.0 ≡ s → around s a b m ≡ area_found (area_around a b) m
spanned_joined s a b m first last =
    let same : (a.sheet.0 == b.sheet.0) ≡ true = eq-eqb a.sheet.0 b.sheet.0 (first ∙ sym last) in
    rw (eq-eqb a.sheet.0 s first, eq-eqb b.sheet.0 s last, same) refl

pub range_of_two : (s : ℕ) (v : Val) (xs : List Slot) (d : Slot) (m : Memory) → is_missing v ≡ false → 1 ≤ length xs → length xs < 2
    → d ≡ slice_index_or xs 0 d
    → range_found s (v ∷ slot_values (map slot_view xs)) m ≡ range_between s v (slot_value (slot_view d)) m
range_of_two s v [] d m h some few is = absurd (omega arith)
range_of_two s v (x ∷ []) d m h some few is = rw is (range_two s v (slot_value (slot_view x)) m h)
range_of_two s v (x ∷ y ∷ xs) d m h some few is = absurd (omega arith)

-- ---- numbers of members

-- behind the last one there is none
pub past : {A : Type 0} (xs : List A) (n : ℕ) (d : A) → length xs ≤ n → slice_index_or xs n d ≡ d
past [] n d h = refl
past (x ∷ xs) zero d h = absurd (omega arith)
past (x ∷ xs) (suc n) d h = past xs n d (omega arith)

-- ---- arguments

pub given_missing : (vs : List Val) → as_given (vs ++ missing ∷ []) ≡ as_given vs
given_missing [] = refl
given_missing (v ∷ vs) = rw (given_missing vs) refl

given_first : (v w : Val) (vs : List Val) → as_given (vs ++ w ∷ []) ≡ vs ++ w ∷ [] → as_given (v ∷ (vs ++ w ∷ [])) ≡ v ∷ (vs ++ w ∷ [])
given_first missing w [] h = rw h refl
given_first missing w (x ∷ vs) h = rw h refl
given_first empty w vs h = rw h refl
given_first null w vs h = rw h refl
given_first (boolean b) w vs h = rw h refl
given_first (whole k z) w vs h = rw h refl
given_first (currency n) w vs h = rw h refl
given_first (text t) w vs h = rw h refl
given_first (object o) w vs h = rw h refl
given_first (array b e i) w vs h = rw h refl
given_first (udt n f) w vs h = rw h refl

given_last : (w : Val) → is_missing w ≡ false → as_given (w ∷ []) ≡ w ∷ []
given_last missing h = cc
given_last empty h = refl
given_last null h = refl
given_last (boolean b) h = refl
given_last (whole k z) h = refl
given_last (currency n) h = refl
given_last (text t) h = refl
given_last (object o) h = refl
given_last (array b e i) h = refl
given_last (udt n f) h = refl

pub given_kept : (vs : List Val) (w : Val) → is_missing w ≡ false → as_given (vs ++ w ∷ []) ≡ vs ++ w ∷ []
given_kept [] w h = given_last w h
given_kept (v ∷ vs) w h = given_first v w vs (given_kept vs w h)

pub is_last_missing : (w : Val) → is_missing w ≡ true → w ≡ missing
is_last_missing missing h = refl
is_last_missing empty h = cc
is_last_missing null h = cc
is_last_missing (boolean b) h = cc
is_last_missing (whole k z) h = cc
is_last_missing (currency n) h = cc
is_last_missing (text t) h = cc
is_last_missing (object o) h = cc
is_last_missing (array b e i) h = cc
is_last_missing (udt n f) h = cc

slots_append : (xs ys : List Slot) → slot_values (map slot_view (xs ++ ys)) ≡ slot_values (map slot_view xs) ++ slot_values (map slot_view ys)
slots_append [] ys = refl
slots_append (x ∷ xs) ys = ap (λ vs. slot_value (slot_view x) ∷ vs) (slots_append xs ys)

last_of : (xs : List Slot) (d : Slot) → 1 ≤ length xs → d ≡ slice_index_or xs (length xs - 1) d → xs ≡ take (length xs - 1) xs ++ d ∷ []
last_of [] d h is = absurd (omega arith)
last_of (x ∷ []) d h is = rw is refl
last_of (x ∷ y ∷ xs) d h is =
    let count : length (x ∷ y ∷ xs) - 1 ≡ suc (length (y ∷ xs) - 1) = omega arith in
    rw count (ap (λ ys. x ∷ ys) (last_of (y ∷ xs) d (omega arith) (rw count at is)))

pub given_without : (xs : List Slot) (d : Slot) → 1 ≤ length xs → d ≡ slice_index_or xs (length xs - 1) d
    → is_missing (slot_value (slot_view d)) ≡ true
    → as_given (slot_values (map slot_view (take (length xs - 1) xs))) ≡ as_given (slot_values (map slot_view xs))
given_without xs d h is missed =
    let last : slot_value (slot_view d) ≡ missing = is_last_missing (slot_value (slot_view d)) missed in
    let before = slot_values (map slot_view (take (length xs - 1) xs)) in
    sym (ap (λ ys. as_given (slot_values (map slot_view ys))) (last_of xs d h is) ∙ ap as_given (slots_append (take (length xs - 1) xs) (d ∷ []))
    ∙ ap (λ (v : Val). as_given (before ++ v ∷ [])) last ∙ given_missing before)

pub given_with : (xs : List Slot) (d : Slot) → 1 ≤ length xs → d ≡ slice_index_or xs (length xs - 1) d → is_missing (slot_value (slot_view d)) ≡ false
    → slot_values (map slot_view xs) ≡ as_given (slot_values (map slot_view xs))
given_with xs d h is some =
    let before = slot_values (map slot_view (take (length xs - 1) xs)) in
    let whole : slot_values (map slot_view xs) ≡ before ++ slot_value (slot_view d) ∷ [] =
    ap (λ ys. slot_values (map slot_view ys)) (last_of xs d h is) ∙ slots_append (take (length xs - 1) xs) (d ∷ []) in
    whole ∙ sym (given_kept before (slot_value (slot_view d)) some) ∙ ap as_given (sym whole)

-- ---- counts of arguments

pub places_read : (r : HostRef) (n k : ℕ) (ns : List ℕ) → takes r n ≡ ns → are_places r (Read n) (suc k) ≡ takes_none ns
places_read r n k [] e = rw e refl
places_read r n k (zero ∷ []) e = rw e refl
places_read r n k (suc i ∷ []) e = rw e refl
places_read r n k (zero ∷ j ∷ ns) e = rw e refl
places_read r n k (suc i ∷ j ∷ ns) e = rw e refl

pub places_written : (r : HostRef) (n k : ℕ) (ns : List ℕ) → takes r n ≡ ns → are_places r (Write n) (suc k) ≡ takes_none ns
places_written r n k [] e = rw e refl
places_written r n k (zero ∷ []) e = rw e refl
places_written r n k (suc i ∷ []) e = rw e refl
places_written r n k (zero ∷ j ∷ ns) e = rw e refl
places_written r n k (suc i ∷ j ∷ ns) e = rw e refl

-- ---- a member by what its arguments are

pub by_places : (d : Declarations) (r : HostRef) (how : HostMember) (xs : List Slot) (begun : Val) (m : Memory) → are_places r how (length xs) ≡ true
    → member_by d r how (slot_values (map slot_view xs)) begun m ≡ item_by begun (slot_values (map slot_view xs)) m
by_places d r how xs begun m is = rw (slot_count xs, is) refl

pub by_value : (d : Declarations) (r : HostRef) (how : HostMember) (xs : List Slot) (begun : Val) (m : Memory) → are_places r how (length xs) ≡ false
    → member_by d r how (slot_values (map slot_view xs)) begun m ≡ member_value d r (number_of how) (slot_values (map slot_view xs)) m
by_value d r how xs begun m is = rw (slot_count xs, is) refl
