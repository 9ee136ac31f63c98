-- A later memory of a run: which objects it has, and that what referred to them still does.
use Rattle.std.proofs.Common.{◌≡◌, ℕ, zero, suc, ◌<◌, ◌≤◌, Bool, true, false, List, [], ◌∷◌, ◌++◌, length, Option, Some, None, refl, sym, ap, ◌∙◌, subst, arith}
use Rattle.std.specs.Prelude.{◌==◌, nat_lt, slice_get, slice_index_or, slice_set, if◌then◌else◌}
use Rattle.std.proofs.lemmas.List.{get_or-set_other}
use Rattle.std.proofs.lemmas.Bool.{eqb-true}
use Rattle.vba_values.specs.declared.object.ObjRef.TheVariants.{Heap}
use Rattle.vba_values.specs.Val.{Val, object}
use Rattle.vba_meaning.specs.Paths.{Root, in_frame, in_project, in_fields, in_block, in_object, in_item, Path}
use Rattle.vba_meaning.specs.Memory.{Slot, value, path, Loop, Kept, only, at_path, walk, Memory, Object, Frame, first_or, rest, top, with_slot, with_kept, put, without, found, with_root, written, with_value, root_value, with_field, object_at, object_or, number_of}
use Rattle.vba_meaning.specs.References.{objects_in, times, times_in_frames, looks}
use Rattle.vba_meaning.specs.Effects.{Event}
use Rattle.object_counts.specs.Balance.{FramesInOrder}
use Rattle.object_counts.proofs.Indexed.{times-append}
use Rattle.object_counts.proofs.Looks.{Grows, same, grown, in_one}
use Rattle.object_lives.proofs.Values.{In, either_of, in_self, in_front, in_back, in_both, in_then, own_time}
use Rattle.object_lives.proofs.Held.{World, Asked, asked, Reach, under, Wider, RootIn, PathIn, StaysIn, Paths}
use Rattle.object_lives.proofs.Marks.{Marked, unmarked, marked_then, kept_marked}

-- ---- objects that are there

abbrev pub Has : Option Object → Type 0
Has None = ⊥
Has (Some b) = Unit {0}

abbrev pub Present : List (Option Object) → ℕ → Type 0
Present bs o = Has (slice_index_or bs o None)

-- all of these are there
abbrev pub AllThere : List (Option Object) → List ℕ → Type 0
AllThere bs os = (o : ℕ) → 0 < times o os → Present bs o

pub none_there : (bs : List (Option Object)) → AllThere bs []
none_there bs o lt = absurd (omega (arith, lt))

pub present_set : (bs : List (Option Object)) (p : ℕ) (b : Object) (o : ℕ) → Present bs o → Present (slice_set bs p (Some b)) o
present_set [] zero b o h = h
present_set [] (suc p) b o h = h
present_set (c ∷ bs) zero b zero h = tt
present_set (c ∷ bs) zero b (suc o) h = h
present_set (c ∷ bs) (suc p) b zero h = h
present_set (c ∷ bs) (suc p) b (suc o) h = present_set bs p b o h

pub present_gone : (bs : List (Option Object)) (p o : ℕ) → (o ≡ p → ⊥) → Present bs o → Present (slice_set bs p None) o
present_gone bs p o apart h = subst (λ x. Has x) (sym (get_or-set_other bs p o None None apart)) h

pub present_more : (bs : List (Option Object)) (b : Object) (o : ℕ) → Present bs o → Present (bs ++ Some b ∷ []) o
present_more [] b zero h = absurd h
present_more [] b (suc o) h = absurd h
present_more (c ∷ bs) b zero h = h
present_more (c ∷ bs) b (suc o) h = present_more bs b o h

pub present_last : (bs : List (Option Object)) (b : Object) → Present (bs ++ Some b ∷ []) (length bs)
present_last [] b = tt
present_last (c ∷ bs) b = present_last bs b

-- each number is that of an object that is there, or it isn't
pub decided : {X : Type 0} (bs : List (Option Object)) (o : ℕ) → (Present bs o → X) → ((Present bs o → ⊥) → X) → X
decided {X = X} bs o f g = by_object (slice_index_or bs o None) f g where
  by_object : (x : Option Object) → (Has x → X) → ((Has x → ⊥) → X) → X
  by_object None f g = g (λ h. h)
  by_object (Some b) f g = f tt

-- another object takes the place of one that is there
pub set_present : (bs : List (Option Object)) (p : ℕ) (b : Object) (o : ℕ) → Present bs p → Present (slice_set bs p (Some b)) o → Present bs o
set_present [] zero b o h k = absurd h
set_present [] (suc p) b o h k = absurd h
set_present (c ∷ bs) zero b zero h k = h
set_present (c ∷ bs) zero b (suc o) h k = k
set_present (c ∷ bs) (suc p) b zero h k = k
set_present (c ∷ bs) (suc p) b (suc o) h k = set_present bs p b o h k

pub more_present : (bs : List (Option Object)) (b : Object) (o : ℕ) → Present (bs ++ Some b ∷ []) o → (Present bs o → ⊥) → o ≡ length bs
more_present [] b zero k n = refl
more_present [] b (suc o) k n = absurd k
more_present (c ∷ bs) b zero k n = absurd (n k)
more_present (c ∷ bs) b (suc o) k n = ap suc (more_present bs b o k n)

-- ---- frames

-- which of the frames were called by code
abbrev pub calleds : List Frame → List Bool
calleds [] = []
calleds (f ∷ fs) = f.called ∷ calleds fs

-- the calls of the first frame stand on that of a Class_Terminate or of the macro; its number
abbrev pub floor_of : List Bool → ℕ
floor_of [] = 0
floor_of (true ∷ bs) = floor_of bs
floor_of (false ∷ bs) = length bs

floor_within : (bs : List Bool) → floor_of bs ≤ length bs
floor_within [] = omega arith
floor_within (true ∷ bs) = omega (arith, floor_within bs)
floor_within (false ∷ bs) = omega arith

pub floor_first : (b : Bool) (bs : List Bool) → floor_of (b ∷ bs) ≤ length bs
floor_first true bs = floor_within bs
floor_first false bs = omega arith

pub each_called : (fs : List Frame) → length (calleds fs) ≡ length fs
each_called [] = refl
each_called (f ∷ fs) = ap suc (each_called fs)

-- what frames refer to besides their variables: to the variables of these objects paths of a frame above them may lead.
-- Number 0 is that of no object: a procedure without Me has its own variables there
abbrev pub roots_of : List Frame → List ℕ
roots_of [] = 0 ∷ []
roots_of (f ∷ fs) = f.held ++ (objects_in f.me ++ roots_of fs)

abbrev pub reach_over : (asks : Bool) → (held : List ℕ) → (me : Val) → (calls : List Bool) → (below : List ℕ) → Reach
reach_over asks os me bs below = record { asks = asks; held = os; roots = os ++ (objects_in me ++ below); floor = floor_of bs }

-- what the first frame refers to and leads to
abbrev pub reach_of : Bool → List Frame → Reach
reach_of asks fs = reach_over asks (first_or fs).held (first_or fs).me ((first_or fs).called ∷ calleds (rest fs)) (roots_of (rest fs))

abbrev pub reach : Bool → Memory → Reach
reach asks m = reach_of asks m.frames

-- the first frame to which its paths lead
abbrev pub low_of : List Frame → ℕ
low_of fs = floor_of ((first_or fs).called ∷ calleds (rest fs))

abbrev pub low : Memory → ℕ
low m = low_of m.frames

-- the object of a value that the frame refers to is one of its roots
zero_root : (fs : List Frame) → 0 < times 0 (roots_of fs)
zero_root [] = omega arith
zero_root (f ∷ fs) = omega (arith, times-append 0 f.held (objects_in f.me ++ roots_of fs), times-append 0 (objects_in f.me) (roots_of fs), zero_root fs)

number_root : (v : Val) (os : List ℕ) → In (objects_in v) os → 0 < times 0 os → 0 < times (number_of v) os
number_root (object (Heap id)) os i z = i.at id.0 (own_time id.0)
number_root v os i z = z

zero_reach : (asks : Bool) (m : Memory) → 0 < times 0 (reach asks m).roots
zero_reach asks m =
    omega (arith, times-append 0 (top m).held (objects_in (top m).me ++ roots_of (rest m.frames)), times-append 0 (objects_in (top m).me) (roots_of (rest m.frames)), zero_root (rest m.frames))

pub given_root : (asks : Bool) (m : Memory) (v : Val) → In (objects_in v) (top m).held → Asked asks (0 < times (number_of v) (reach asks m).roots)
given_root asks m v i =
    asked asks (number_root v (reach asks m).roots (in_then i (in_front (top m).held (objects_in (top m).me ++ roots_of (rest m.frames)))) (zero_reach asks m))

-- Me is one
pub me_root : (asks : Bool) (m : Memory) → Asked asks (0 < times (number_of (top m).me) (reach asks m).roots)
me_root asks m =
    asked asks
    (number_root (top m).me (reach asks m).roots (in_then (in_front (objects_in (top m).me) (roots_of (rest m.frames))) (in_back (top m).held (objects_in (top m).me ++ roots_of (rest m.frames)))) (zero_reach asks m))

-- and Me of those that stay
pub me_stays : (asks : Bool) (m : Memory) → Asked asks (0 < times (number_of (top m).me) (objects_in (top m).me ++ roots_of (rest m.frames)))
me_stays asks m =
    asked asks (number_root (top m).me (objects_in (top m).me ++ roots_of (rest m.frames)) (in_front (objects_in (top m).me) (roots_of (rest m.frames)))
    (omega (arith, times-append 0 (objects_in (top m).me) (roots_of (rest m.frames)), zero_root (rest m.frames))))

-- a path of the running frame may lead to itself
pub own_floor : (m : Memory) → (low m) ≤ length (rest m.frames)
own_floor m = omega (arith, floor_first (top m).called (calleds (rest m.frames)), each_called (rest m.frames))

pub floor_frames : (fs : List Frame) → floor_of (calleds fs) ≡ (low_of fs)
floor_frames [] = refl
floor_frames (f ∷ fs) = refl

pub roots_frames : (asks : Bool) (fs : List Frame) → roots_of fs ≡ (reach_of asks fs).roots
roots_frames asks [] = refl
roots_frames asks (f ∷ fs) = refl

-- ---- paths of frames

-- the paths that frames have refer to nothing themselves, and lead to no frame under their floor. Those of variables lead to
-- objects that frames below refer to, those of blocks also to Me
abbrev pub BareSlots : Reach → List Slot → Type 0
BareSlots hs [] = Unit {0}
BareSlots hs (value v ∷ xs) = BareSlots hs xs
BareSlots hs (path q ∷ xs) = PathIn hs q × BareSlots hs xs

abbrev pub BareKept : Reach → Kept → Type 0
BareKept hs (only v) = Unit {0}
BareKept hs (at_path q) = PathIn hs q
BareKept hs (walk begun v k) = Unit {0}

abbrev pub BareKeeps : Reach → List (ℕ × Kept) → Type 0
BareKeeps hs [] = Unit {0}
BareKeeps hs (e ∷ es) = BareKept hs e.1 × BareKeeps hs es

-- what a For keeps isn't counted, and refers to nothing
abbrev pub PlainLoop : Loop → Type 0
PlainLoop l = In (objects_in l.last.value) [] × In (objects_in l.step.value) []

abbrev pub PlainLoops : List (ℕ × Loop) → Type 0
PlainLoops [] = Unit {0}
PlainLoops (e ∷ es) = PlainLoop e.1 × PlainLoops es

pub loops_without : (i : ℕ) (es : List (ℕ × Loop)) → PlainLoops es → PlainLoops (without es i)
loops_without i [] h = tt
loops_without i (e ∷ es) h = by_test (e.0 == i) (loops_without i es h.1) where
  by_test : (b : Bool) → PlainLoops (without es i) → PlainLoops (if b then without es i else e ∷ without es i)
  by_test true more = more
  by_test false more = (h.0, more)

-- over frames that refer to these, with this floor
abbrev pub BareFrame : Bool → List ℕ → ℕ → Frame → Type 0
BareFrame asks os l f = BareSlots (under asks os l) f.slots × BareKeeps (under asks (objects_in f.me ++ os) l) f.keeps × PlainLoops f.loops

abbrev pub BareFrames : Bool → List Frame → Type 0
BareFrames asks [] = Unit {0}
BareFrames asks (f ∷ fs) = BareFrame asks (roots_of fs) (floor_of (f.called ∷ calleds fs)) f × BareFrames asks fs

-- of the running frame
abbrev pub BareTop : Bool → Memory → Frame → Type 0
BareTop asks m f = BareFrame asks (roots_of (rest m.frames)) (low m) f

-- what blocks of the running frame keep
abbrev pub stay_reach : Bool → List Frame → Reach
stay_reach asks fs = under asks (objects_in (first_or fs).me ++ roots_of (rest fs)) (low_of fs)

abbrev pub block_reach : Bool → Memory → Reach
block_reach asks m = stay_reach asks m.frames

-- a path leads to a variable of an object that stays as long as the frame: to one of Me, or of what frames below refer to
abbrev pub Stays : Bool → Memory → Path → Type 0
Stays asks m q = StaysIn (block_reach asks m) q.root

pub bare_first : (asks : Bool) (fs : List Frame) → BareFrames asks fs → BareFrame asks (roots_of (rest fs)) (low_of fs) (first_or fs)
bare_first asks [] h = (tt, tt, tt)
bare_first asks (f ∷ fs) h = h.0

pub bare_rest : (asks : Bool) (fs : List Frame) → BareFrames asks fs → BareFrames asks (rest fs)
bare_rest asks [] h = tt
bare_rest asks (f ∷ fs) h = h.1

pub bare_put : (hs : Reach) (i : ℕ) (k : Kept) (es : List (ℕ × Kept)) → BareKept hs k → BareKeeps hs es → BareKeeps hs (put i k es)
bare_put hs i k [] h g = (h, tt)
bare_put hs i k (e ∷ es) h g = by_tests (e.0 == i) (nat_lt i e.0) (bare_put hs i k es h g.1) where
  by_tests : (b c : Bool) → BareKeeps hs (put i k es) → BareKeeps hs (if b then (i, k) ∷ es else if c then (i, k) ∷ e ∷ es else e ∷ put i k es)
  by_tests true c more = (h, g.1)
  by_tests false true more = (h, g)
  by_tests false false more = (g.0, more)

pub bare_without : (hs : Reach) (i : ℕ) (es : List (ℕ × Kept)) → BareKeeps hs es → BareKeeps hs (without es i)
bare_without hs i [] g = tt
bare_without hs i (e ∷ es) g = by_test (e.0 == i) (bare_without hs i es g.1) where
  by_test : (b : Bool) → BareKeeps hs (without es i) → BareKeeps hs (if b then without es i else e ∷ without es i)
  by_test true more = more
  by_test false more = (g.0, more)

abbrev pub BareFound : Reach → Option Kept → Type 0
BareFound hs None = Unit {0}
BareFound hs (Some k) = BareKept hs k

pub bare_found : (hs : Reach) (i : ℕ) (es : List (ℕ × Kept)) → BareKeeps hs es → BareFound hs (found es i)
bare_found hs i [] g = tt
bare_found hs i (e ∷ es) g = by_test (e.0 == i) (bare_found hs i es g.1) where
  by_test : (b : Bool) → BareFound hs (found es i) → BareFound hs (if b then Some e.1 else found es i)
  by_test true more = g.0
  by_test false more = more

bare_set : (hs : Reach) (xs : List Slot) (i : ℕ) (w : Val) → BareSlots hs xs → BareSlots hs (slice_set xs i (value w))
bare_set hs [] zero w h = h
bare_set hs [] (suc i) w h = h
bare_set hs (value v ∷ xs) zero w h = h
bare_set hs (path q ∷ xs) zero w h = h.1
bare_set hs (value v ∷ xs) (suc i) w h = bare_set hs xs i w h
bare_set hs (path q ∷ xs) (suc i) w h = (h.0, bare_set hs xs i w h.1)

-- places that are lent to calls that don't stand yet are held, as operands are
abbrev pub LentFrames : Bool → List Frame → Type 0
LentFrames asks [] = Unit {0}
LentFrames asks (f ∷ fs) = Paths (reach_of asks (f ∷ fs)) f.pending × LentFrames asks fs

abbrev pub LentTop : Bool → Memory → Type 0
LentTop asks m = Paths (reach asks m) (top m).pending

pub lent_first : (asks : Bool) (fs : List Frame) → LentFrames asks fs → Paths (reach_of asks fs) (first_or fs).pending
lent_first asks [] h = tt
lent_first asks (f ∷ fs) h = h.0

pub lent_rest : (asks : Bool) (fs : List Frame) → LentFrames asks fs → LentFrames asks (rest fs)
lent_rest asks [] h = tt
lent_rest asks (f ∷ fs) h = h.1

pub lent_both : (asks : Bool) (fs : List Frame) → Paths (reach_of asks fs) (first_or fs).pending → LentFrames asks (rest fs) → LentFrames asks fs
lent_both asks [] h g = tt
lent_both asks (f ∷ fs) h g = (h, g)

-- ---- frames that are as they were

-- the same calls stand, hold the same and lend the same, and those under a number are the same
abbrev pub Like : ℕ → List Frame → List Frame → Type 0
Like l [] [] = Unit {0}
Like l [] (g ∷ gs) = ⊥
Like l (f ∷ fs) [] = ⊥
Like l (f ∷ fs) (g ∷ gs) = (f.called ≡ g.called) × (f.me ≡ g.me) × (f.held ≡ g.held) × (length fs < l → f ≡ g) × (f.pending ≡ g.pending) × Like l fs gs

pub like_same : (l : ℕ) (fs : List Frame) → Like l fs fs
like_same l [] = tt
like_same l (f ∷ fs) = (refl, refl, refl, λ lt. refl, refl, like_same l fs)

like_length : (l : ℕ) (fs gs : List Frame) → Like l fs gs → length gs ≡ length fs
like_length l [] [] h = refl
like_length l [] (g ∷ gs) h = absurd h
like_length l (f ∷ fs) [] h = absurd h
like_length l (f ∷ fs) (g ∷ gs) h = ap suc (like_length l fs gs h.5)

like_then : (l : ℕ) (fs gs hs : List Frame) → Like l fs gs → Like l gs hs → Like l fs hs
like_then l [] [] [] a b = tt
like_then l [] [] (k ∷ hs) a b = absurd b
like_then l [] (g ∷ gs) hs a b = absurd a
like_then l (f ∷ fs) [] hs a b = absurd a
like_then l (f ∷ fs) (g ∷ gs) [] a b = absurd b
like_then l (f ∷ fs) (g ∷ gs) (k ∷ hs) a b =
    (a.0 ∙ b.0, a.1 ∙ b.1, a.2 ∙ b.2, λ lt. a.3 lt ∙ b.3 (omega (arith, like_length l fs gs a.5, lt)), a.4 ∙ b.4, like_then l fs gs hs a.5 b.5)

pub like_calleds : (l : ℕ) (fs gs : List Frame) → Like l fs gs → calleds gs ≡ calleds fs
like_calleds l [] [] h = refl
like_calleds l [] (g ∷ gs) h = absurd h
like_calleds l (f ∷ fs) [] h = absurd h
like_calleds l (f ∷ fs) (g ∷ gs) h = ap (λ b. b ∷ calleds gs) (sym h.0) ∙ ap (λ bs. f.called ∷ bs) (like_calleds l fs gs h.5)

pub like_roots : (l : ℕ) (fs gs : List Frame) → Like l fs gs → roots_of gs ≡ roots_of fs
like_roots l [] [] h = refl
like_roots l [] (g ∷ gs) h = absurd h
like_roots l (f ∷ fs) [] h = absurd h
like_roots l (f ∷ fs) (g ∷ gs) h =
    ap (λ os. os ++ (objects_in g.me ++ roots_of gs)) (sym h.2) ∙ ap (λ v. f.held ++ (objects_in v ++ roots_of gs)) (sym h.1) ∙ ap (λ os. f.held ++ (objects_in f.me ++ os)) (like_roots l fs gs h.5)

pub like_reach : {asks : Bool} (l : ℕ) (fs gs : List Frame) → Like l fs gs → reach_of asks gs ≡ reach_of asks fs
like_reach l [] [] h = refl
like_reach l [] (g ∷ gs) h = absurd h
like_reach l (f ∷ fs) [] h = absurd h
like_reach {asks = asks} l (f ∷ fs) (g ∷ gs) h =
    ap (λ os. reach_over asks os g.me (calleds (g ∷ gs)) (roots_of gs)) (sym h.2) ∙ ap (λ v. reach_over asks f.held v (calleds (g ∷ gs)) (roots_of gs)) (sym h.1)
    ∙ ap (λ bs. reach_over asks f.held f.me bs (roots_of gs)) (like_calleds l (f ∷ fs) (g ∷ gs) h) ∙ ap (λ os. reach_over asks f.held f.me (calleds (f ∷ fs)) os) (like_roots l fs gs h.5)

pub like_stay : (asks : Bool) (l : ℕ) (fs gs : List Frame) → Like l fs gs → stay_reach asks gs ≡ stay_reach asks fs
like_stay asks l [] [] h = refl
like_stay asks l [] (g ∷ gs) h = absurd h
like_stay asks l (f ∷ fs) [] h = absurd h
like_stay asks l (f ∷ fs) (g ∷ gs) h =
    ap (λ v. under asks (objects_in v ++ roots_of gs) (floor_of (calleds (g ∷ gs)))) (sym h.1) ∙ ap (λ bs. under asks (objects_in f.me ++ roots_of gs) (floor_of bs)) (like_calleds l (f ∷ fs) (g ∷ gs) h)
    ∙ ap (λ os. under asks (objects_in f.me ++ os) (floor_of (calleds (f ∷ fs)))) (like_roots l fs gs h.5)

pub like_lent : (asks : Bool) (l : ℕ) (fs gs : List Frame) → Like l fs gs → LentFrames asks fs → LentFrames asks gs
like_lent asks l [] [] h a = tt
like_lent asks l [] (g ∷ gs) h a = absurd h
like_lent asks l (f ∷ fs) [] h a = absurd h
like_lent asks l (f ∷ fs) (g ∷ gs) h a =
    (subst (λ qs. Paths (reach_of asks (g ∷ gs)) qs) h.4 (subst (λ hs. Paths hs f.pending) (sym (like_reach l (f ∷ fs) (g ∷ gs) h)) a.0), like_lent asks l fs gs h.5 a.1)

-- all of them stand under the number
pub like_under : (l : ℕ) (fs gs : List Frame) → length fs ≤ l → Like l fs gs → gs ≡ fs
like_under l [] [] le h = refl
like_under l [] (g ∷ gs) le h = absurd h
like_under l (f ∷ fs) [] le h = absurd h
like_under l (f ∷ fs) (g ∷ gs) le h = ap (λ k. k ∷ gs) (sym (h.3 (omega (arith, le)))) ∙ ap (λ ks. f ∷ ks) (like_under l fs gs (omega (arith, le)) h.5)

like_rest : (l : ℕ) (fs gs : List Frame) → Like l fs gs → Like l (rest fs) (rest gs)
like_rest l [] [] h = tt
like_rest l [] (g ∷ gs) h = absurd h
like_rest l (f ∷ fs) [] h = absurd h
like_rest l (f ∷ fs) (g ∷ gs) h = h.5

like_called : (l : ℕ) (fs gs : List Frame) → Like l fs gs → (first_or fs).called ≡ (first_or gs).called
like_called l [] [] h = refl
like_called l [] (g ∷ gs) h = absurd h
like_called l (f ∷ fs) [] h = absurd h
like_called l (f ∷ fs) (g ∷ gs) h = h.0

like_me : (l : ℕ) (fs gs : List Frame) → Like l fs gs → (first_or fs).me ≡ (first_or gs).me
like_me l [] [] h = refl
like_me l [] (g ∷ gs) h = absurd h
like_me l (f ∷ fs) [] h = absurd h
like_me l (f ∷ fs) (g ∷ gs) h = h.1

like_held : (l : ℕ) (fs gs : List Frame) → Like l fs gs → (first_or fs).held ≡ (first_or gs).held
like_held l [] [] h = refl
like_held l [] (g ∷ gs) h = absurd h
like_held l (f ∷ fs) [] h = absurd h
like_held l (f ∷ fs) (g ∷ gs) h = h.2

like_pending : (l : ℕ) (fs gs : List Frame) → Like l fs gs → (first_or fs).pending ≡ (first_or gs).pending
like_pending l [] [] h = refl
like_pending l [] (g ∷ gs) h = absurd h
like_pending l (f ∷ fs) [] h = absurd h
like_pending l (f ∷ fs) (g ∷ gs) h = h.4

like_slot : (l : ℕ) (fs : List Frame) (k x : ℕ) (w : Slot) → l ≤ k → Like l fs (with_slot fs k x w)
like_slot l [] k x w le = tt
like_slot l (f ∷ fs) k x w le = by_test (length fs == k) refl (like_slot l fs k x w le) where
  by_test : (b : Bool) → (length fs == k) ≡ b → Like l fs (with_slot fs k x w) → Like l (f ∷ fs) (if b then record f { slots = slice_set f.slots x w } ∷ fs else f ∷ with_slot fs k x w)
  by_test true e more = (refl, refl, refl, λ lt. absurd (omega (arith, eqb-true (length fs) k e, le, lt)), refl, like_same l fs)
  by_test false e more = (refl, refl, refl, λ lt. refl, refl, more)

like_kept : (l : ℕ) (fs : List Frame) (k i : ℕ) (w : Kept) → l ≤ k → Like l fs (with_kept fs k i w)
like_kept l [] k i w le = tt
like_kept l (f ∷ fs) k i w le = by_test (length fs == k) refl (like_kept l fs k i w le) where
  by_test : (b : Bool) → (length fs == k) ≡ b → Like l fs (with_kept fs k i w) → Like l (f ∷ fs) (if b then record f { keeps = put i w f.keeps } ∷ fs else f ∷ with_kept fs k i w)
  by_test true e more = (refl, refl, refl, λ lt. absurd (omega (arith, eqb-true (length fs) k e, le, lt)), refl, like_same l fs)
  by_test false e more = (refl, refl, refl, λ lt. refl, refl, more)

bare_like : (asks : Bool) (f : Frame) (fs gs : List Frame) → Like 0 fs gs → BareFrame asks (roots_of fs) (floor_of (f.called ∷ calleds fs)) f → BareFrame asks (roots_of gs) (floor_of (f.called ∷ calleds gs)) f
bare_like asks f fs gs a h =
    subst (λ bs. BareFrame asks (roots_of gs) (floor_of (f.called ∷ bs)) f) (sym (like_calleds 0 fs gs a)) (subst (λ os. BareFrame asks os (floor_of (f.called ∷ calleds fs)) f) (sym (like_roots 0 fs gs a)) h)

bare_slot_set : (asks : Bool) (fs : List Frame) (k x : ℕ) (w : Val) → BareFrames asks fs → BareFrames asks (with_slot fs k x (value w))
bare_slot_set asks [] k x w h = tt
bare_slot_set asks (f ∷ fs) k x w h = by_test (length fs == k) (bare_slot_set asks fs k x w h.1) where
  by_test : (b : Bool) → BareFrames asks (with_slot fs k x (value w)) → BareFrames asks (if b then record f { slots = slice_set f.slots x (value w) } ∷ fs else f ∷ with_slot fs k x (value w))
  by_test true more = ((bare_set (under asks (roots_of fs) (floor_of (f.called ∷ calleds fs))) f.slots x w h.0.0, h.0.1, h.0.2), h.1)
  by_test false more = (bare_like asks f fs (with_slot fs k x (value w)) (like_slot 0 fs k x (value w) (omega arith)) h.0, more)

bare_kept_set : (asks : Bool) (fs : List Frame) (k i : ℕ) (w : Val) → BareFrames asks fs → BareFrames asks (with_kept fs k i (only w))
bare_kept_set asks [] k i w h = tt
bare_kept_set asks (f ∷ fs) k i w h = by_test (length fs == k) (bare_kept_set asks fs k i w h.1) where
  by_test : (b : Bool) → BareFrames asks (with_kept fs k i (only w)) → BareFrames asks (if b then record f { keeps = put i (only w) f.keeps } ∷ fs else f ∷ with_kept fs k i (only w))
  by_test true more = ((h.0.0, bare_put (under asks (objects_in f.me ++ roots_of fs) (floor_of (f.called ∷ calleds fs))) i (only w) f.keeps tt h.0.1, h.0.2), h.1)
  by_test false more = (bare_like asks f fs (with_kept fs k i (only w)) (like_kept 0 fs k i (only w) (omega arith)) h.0, more)

pub top_live : (o : ℕ) (m : Memory) → in_one o (top m) ≤ looks m o
top_live o m = omega (arith, by_frames m.frames) where
  by_frames : (fs : List Frame) → in_one o (first_or fs) ≤ times_in_frames o fs
  by_frames [] = omega arith
  by_frames (f ∷ fs) = omega arith

-- ---- a memory

-- each reference in it leads to an object that is there
pub record Ready (asks : Bool) (m : Memory) : Type 0 where
  pub live : (o : ℕ) → 0 < looks m o → Present m.objects o
  pub ordered : FramesInOrder m.frames
  pub bare : BareFrames asks m.frames
  pub lent : LentFrames asks m.frames

-- it became another one: all objects that were there still are, and a new one is held; these references came, the running
-- frame holds what it held, the calls are the same, and no frame changed to which none of its paths leads
pub record Near (asks : Bool) (m m1 : Memory) : Type 0 where
  pub came : List ℕ
  pub grows : Grows m came m1
  pub came_there : AllThere m1.objects came
  pub there : (o : ℕ) → Present m.objects o → Present m1.objects o
  pub fresh : (o : ℕ) → Present m1.objects o → (Present m.objects o → ⊥) → 0 < times o (top m1).held
  pub held : In (top m).held (top m1).held
  pub called : (top m).called ≡ (top m1).called
  pub me : (top m).me ≡ (top m1).me
  pub below : Like (low m) (rest m.frames) (rest m1.frames)
  pub bare : BareFrames asks m.frames → BareFrames asks m1.frames
  -- whatever it lends leads to what is held
  pub lent : Wider (reach asks m) (reach asks m1) → LentTop asks m → LentTop asks m1

pub near_same : {asks : Bool} (m : Memory) → Near asks m m
near_same m = record {
  came = [];
  grows = same m;
  came_there = none_there m.objects;
  there = λ o h. h;
  fresh = λ o h n. absurd (n h);
  held = in_self (top m).held;
  called = refl;
  me = refl;
  below = like_same (low m) (rest m.frames);
  bare = λ h. h;
  lent = λ w h. h;
}

pub near_floor : {asks : Bool} {m m1 : Memory} → Near asks m m1 → (low m1) ≡ (low m)
near_floor {m = m} {m1 = m1} n =
    ap (λ b. floor_of (b ∷ calleds (rest m1.frames))) (sym n.called) ∙ ap (λ bs. floor_of ((top m).called ∷ bs)) (like_calleds (low m) (rest m.frames) (rest m1.frames) n.below)

pub near_roots : {asks : Bool} {m m1 : Memory} → Near asks m m1 → roots_of (rest m1.frames) ≡ roots_of (rest m.frames)
near_roots {m = m} {m1 = m1} n = like_roots (low m) (rest m.frames) (rest m1.frames) n.below

in_more : {xs ys zs ws : List ℕ} → In xs ys → In zs ws → In (xs ++ zs) (ys ++ ws)
in_more {xs = xs} {ys = ys} {zs = zs} {ws = ws} a b = in_both xs zs (in_then a (in_front ys ws)) (in_then b (in_back ys ws))

pub wider : {asks : Bool} {m m1 : Memory} → Near asks m m1 → Wider (reach asks m) (reach asks m1)
wider {m = m} {m1 = m1} n = record {
  asks = refl;
  held = n.held;
  roots = in_more n.held (subst (λ v. In (objects_in (top m).me ++ roots_of (rest m.frames)) (objects_in v ++ roots_of (rest m1.frames))) n.me
      (subst (λ os. In (objects_in (top m).me ++ roots_of (rest m.frames)) (objects_in (top m).me ++ os)) (sym (near_roots n)) (in_self (objects_in (top m).me ++ roots_of (rest m.frames)))));
  floor = omega (arith, near_floor n);
}

-- and what blocks keep leads where it led
pub near_block : {asks : Bool} {m m1 : Memory} → Near asks m m1 → block_reach asks m1 ≡ block_reach asks m
near_block {asks = asks} {m = m} {m1 = m1} n =
    ap (λ l. under asks (objects_in (top m1).me ++ roots_of (rest m1.frames)) l) (near_floor n) ∙ ap (λ v. under asks (objects_in v ++ roots_of (rest m1.frames)) (low m)) (sym n.me)
    ∙ ap (λ os. under asks (objects_in (top m).me ++ os) (low m)) (near_roots n)

pub near_then : {asks : Bool} {m m1 m2 : Memory} → Near asks m m1 → Near asks m1 m2 → Near asks m m2
near_then {m = m} {m1 = m1} {m2 = m2} a b = record {
  came = a.came ++ b.came;
  grows = grown a.grows b.grows;
  came_there = λ o lt. either_of (times o a.came) (times o b.came) (omega (arith, times-append o a.came b.came, lt)) (λ h. b.there o (a.came_there o h)) (λ h. b.came_there o h);
  there = λ o h. b.there o (a.there o h);
  fresh = λ o h n. decided m1.objects o (λ k. b.held.at o (a.fresh o k n)) (λ k. b.fresh o h k);
  held = in_then a.held b.held;
  called = a.called ∙ b.called;
  me = a.me ∙ b.me;
  below = like_then (low m) (rest m.frames) (rest m1.frames) (rest m2.frames) a.below (subst (λ l. Like l (rest m1.frames) (rest m2.frames)) (near_floor a) b.below);
  bare = λ h. b.bare (a.bare h);
  lent = λ w h. b.lent (wider b) (a.lent (wider a) h);
}

pub near_ready : {asks : Bool} {m m1 : Memory} → Near asks m m1 → Ready asks m → Ready asks m1
near_ready {asks = asks} {m = m} {m1 = m1} a r = record {
  live = λ o lt. either_of (looks m o) (times o a.came) (omega (arith, a.grows.more r.ordered o, lt)) (λ h. a.there o (r.live o h)) (λ h. a.came_there o h);
  ordered = a.grows.ordered r.ordered;
  bare = a.bare r.bare;
  lent = lent_both asks m1.frames (a.lent (wider a) (lent_first asks m.frames r.lent)) (like_lent asks (low m) (rest m.frames) (rest m1.frames) a.below (lent_rest asks m.frames r.lent));
}

-- what the running frame holds is there
pub held_there : {asks : Bool} {m : Memory} {os : List ℕ} → Ready asks m → In os (top m).held → AllThere m.objects os
held_there {m = m} r i o lt = r.live o (omega (arith, top_live o m, i.at o lt))

-- where nothing is taken for sure of a code, as little is told of its references; its events are told of in each case
pub record Later (Sure : World) (m : Memory) (es : List Event) (m1 : Memory) : Type 0 where
  pub marks : Marked m.objects es m1.objects
  pub near : Sure.sure → Near Sure.asks m m1

pub later_same : {Sure : World} (m : Memory) → Later Sure m [] m
later_same m = record { marks = unmarked m.objects; near = λ s. near_same m }

pub later_then : {Sure : World} {m m1 m2 : Memory} {es hs : List Event} → Later Sure m es m1 → Later Sure m1 hs m2 → Later Sure m (es ++ hs) m2
later_then a b = record { marks = marked_then a.marks b.marks; near = λ s. near_then (a.near s) (b.near s) }

-- ---- a place is written

there_root : (m : Memory) (r : Root) (w : Val) (o : ℕ) → Present m.objects o → Present (with_root m r w).objects o
there_root m (in_frame k x) w o h = h
there_root m (in_project x) w o h = h
there_root m (in_fields n i) w o h = present_set m.objects n (with_field (object_at m n) i w) o h
there_root m (in_block k i) w o h = h
there_root m (in_object n) w o h = h
there_root m (in_item v) w o h = h

has_fields : (x : Option Object) (i : ℕ) (old : Val) → slice_get (object_or x).fields i ≡ Some old → Has x
has_fields None zero old e = absurd cc
has_fields None (suc i) old e = absurd cc
has_fields (Some b) i old e = tt

old_root : (m : Memory) (r : Root) (w old : Val) (o : ℕ) → root_value m r ≡ Some old → Present (with_root m r w).objects o → Present m.objects o
old_root m (in_frame k x) w old o e h = h
old_root m (in_project x) w old o e h = h
old_root m (in_fields n i) w old o e h = set_present m.objects n (with_field (object_at m n) i w) o (has_fields (slice_index_or m.objects n None) i old e) h
old_root m (in_block k i) w old o e h = h
old_root m (in_object n) w old o e h = h
old_root m (in_item v) w old o e h = h

like_root : (hs : Reach) (m : Memory) (r : Root) (w : Val) → RootIn hs r → Like hs.floor m.frames (with_root m r w).frames
like_root hs m (in_frame k x) w h = like_slot hs.floor m.frames k x (value w) h
like_root hs m (in_project x) w h = like_same hs.floor m.frames
like_root hs m (in_fields n i) w h = like_same hs.floor m.frames
like_root hs m (in_block k i) w h = like_kept hs.floor m.frames k i (only w) h
like_root hs m (in_object n) w h = like_same hs.floor m.frames
like_root hs m (in_item v) w h = like_same hs.floor m.frames

bare_root : (asks : Bool) (m : Memory) (r : Root) (w : Val) → BareFrames asks m.frames → BareFrames asks (with_root m r w).frames
bare_root asks m (in_frame k x) w h = bare_slot_set asks m.frames k x w h
bare_root asks m (in_project x) w h = h
bare_root asks m (in_fields n i) w h = h
bare_root asks m (in_block k i) w h = bare_kept_set asks m.frames k i w h
bare_root asks m (in_object n) w h = h
bare_root asks m (in_item v) w h = h

marked_root : (m : Memory) (r : Root) (w : Val) → Marked m.objects [] (with_root m r w).objects
marked_root m (in_frame k x) w = unmarked m.objects
marked_root m (in_project x) w = unmarked m.objects
marked_root m (in_fields n i) w = kept_marked m.objects n (with_field (object_at m n) i w) refl refl
marked_root m (in_block k i) w = unmarked m.objects
marked_root m (in_object n) w = unmarked m.objects
marked_root m (in_item v) w = unmarked m.objects

pub there_written : (m : Memory) (p : Path) (w : Val) (o : ℕ) → Present m.objects o → Present (with_value m p w).objects o
there_written m p w o h = by_root (root_value m p.root) where
  by_root : (x : Option Val) → Present (written m p x w).objects o
  by_root None = h
  by_root (Some old) = there_root m p.root _ o h

-- no object comes back
pub old_written : (m : Memory) (p : Path) (w : Val) (o : ℕ) → Present (with_value m p w).objects o → Present m.objects o
old_written m p w o h = by_root (root_value m p.root) refl h where
  by_root : (x : Option Val) → root_value m p.root ≡ x → Present (written m p x w).objects o → Present m.objects o
  by_root None e k = k
  by_root (Some old) e k = old_root m p.root _ old o e k

-- the frames are as they were, but one to which the path may lead
like_written : (hs : Reach) (m : Memory) (p : Path) (w : Val) → PathIn hs p → Like hs.floor m.frames (with_value m p w).frames
like_written hs m p w h = by_root (root_value m p.root) where
  by_root : (x : Option Val) → Like hs.floor m.frames (written m p x w).frames
  by_root None = like_same hs.floor m.frames
  by_root (Some old) = like_root hs m p.root _ h

pub bare_written : (asks : Bool) (m : Memory) (p : Path) (w : Val) → BareFrames asks m.frames → BareFrames asks (with_value m p w).frames
bare_written asks m p w h = by_root (root_value m p.root) where
  by_root : (x : Option Val) → BareFrames asks (written m p x w).frames
  by_root None = h
  by_root (Some old) = bare_root asks m p.root _ h

pub marked_written : (m : Memory) (p : Path) (w : Val) → Marked m.objects [] (with_value m p w).objects
marked_written m p w = by_root (root_value m p.root) where
  by_root : (x : Option Val) → Marked m.objects [] (written m p x w).objects
  by_root None = unmarked m.objects
  by_root (Some old) = marked_root m p.root _

-- the running frame of a memory with another value at a place holds what it held, and the others do
module _ (asks : Bool) (m : Memory) (p : Path) (w : Val) (h : PathIn (reach asks m) p) where
  pub top_written : (top (with_value m p w)).held ≡ (top m).held
  top_written = sym (like_held (low m) m.frames (with_value m p w).frames (like_written (reach asks m) m p w h))

  pub called_written : (top m).called ≡ (top (with_value m p w)).called
  called_written = like_called (low m) m.frames (with_value m p w).frames (like_written (reach asks m) m p w h)

  pub me_written : (top m).me ≡ (top (with_value m p w)).me
  me_written = like_me (low m) m.frames (with_value m p w).frames (like_written (reach asks m) m p w h)

  pub pending_written : (top m).pending ≡ (top (with_value m p w)).pending
  pending_written = like_pending (low m) m.frames (with_value m p w).frames (like_written (reach asks m) m p w h)

  pub below_written : Like (low m) (rest m.frames) (rest (with_value m p w).frames)
  below_written = like_rest (low m) m.frames (with_value m p w).frames (like_written (reach asks m) m p w h)
