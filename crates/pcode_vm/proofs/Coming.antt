-- Late-bound members: what uses came to, and the operands of instructions.
use Rattle.std.proofs.Common.{◌≡◌, ℕ, zero, suc, ◌+◌, ◌-◌, ◌≤◌, ◌<◌, List, [], ◌∷◌, length, get_or, reverse, map, refl, sym, ap, subst, ◌∙◌, arith}
use Rattle.std.specs.Prelude.{Bool, true, false, slice_index_or}
use Rattle.std.proofs.lemmas.List.{get_or-reverse, length-reverse}
use Rattle.vba_values.specs.Val.{Val, empty}
use Rattle.bound_project.specs.Expressions.{ByName}
use Rattle.bound_project.specs.Pieces.{flags}
use Rattle.vba_meaning.specs.Paths.{Path}
use Rattle.vba_meaning.specs.Memory.{Memory, value, path}
use Rattle.vba_meaning.specs.Memory as plain
use Rattle.vba_meaning.specs.Effects.{lent, slot_value}
use Rattle.vba_meaning.specs.Defaults.{element_by, has_array, is_instance, item_along}
use Rattle.vba_meaning.specs.LateBound.{Use, host_arguments, late_called, lends_place, place_copied}
use Rattle.vba_meaning.specs.Meaning.{State, with_memory}
use Rattle.run_memory.specs.declared.frame.Slot.{Slot}
use Rattle.run_memory.specs.View.{slot_view}
use Rattle.pcode.specs.Instructions.{Code}
use Rattle.pcode.specs.Machine.{Back, Config, Fin, Move, Sticks, Stuck, base_below, done_then, follow, places_along, then_at, then_push_path, take_args, uses, uses_member}
use Rattle.pcode_vm.specs.Late.{binds_path, calls_received}

-- a state is known by its memory and by how many turns were begun
pub same_state : (s t : State) (m : Memory) → s.begun ≡ t.begun → with_memory s m ≡ with_memory t m
same_state s t m e = rw e refl

-- as many flags as arguments
pub as_many_flags : (n : ℕ) (ks : List ℕ) → length (flags n ks) ≡ n
as_many_flags zero ks = refl
as_many_flags (suc n) [] = ap suc (as_many_flags n [])
as_many_flags (suc n) (k ∷ ks) = ap suc (as_many_flags n ks)

-- so many operands are taken
pub flags_taken : (n : ℕ) (ks : List ℕ) (st : List plain.Slot) (go : List plain.Slot → List plain.Slot → Move) → take_args (length (flags n ks)) st [] go ≡ take_args n st [] go
flags_taken n ks st go = ap (λ (k : ℕ). take_args k st [] go) (as_many_flags n ks)

-- a move for which an operand lacks
pub stuck_by : (bound : ℕ) (m : Move) (more : Config → Fin) → m ≡ Sticks → follow bound m more ≡ Stuck
stuck_by bound m more e = ap (λ (x : Move). follow bound x more) e

-- what holds of a member that is looked up by what counts as the same
pub sought_same : (P : List ℕ → ByName → List Bool → Type 0) (n n' : List ℕ) (by by' : ByName) (gs gs' : List Bool) → n ≡ n' → by ≡ by' → gs ≡ gs' → P n by gs → P n' by' gs'
sought_same P n n' by by' gs gs' e f g h =
    subst (λ (x : List ℕ). P x by' gs') e (subst (λ (x : ByName). P n x gs') f (subst (λ (x : List Bool). P n by x) g h))

-- ---- the operand below so many

slot_there : (xs : List Slot) (i : ℕ) (d : Slot) → i < length xs → slice_index_or (map slot_view xs) i (value empty) ≡ slot_view (get_or xs i d)
slot_there [] i d h = absurd (omega arith)
slot_there (x ∷ xs) zero d h = refl
slot_there (x ∷ xs) (suc i) d h = slot_there xs i d (omega arith)

slot_past : (xs : List Slot) (i : ℕ) → length xs ≤ i → slice_index_or (map slot_view xs) i (value empty) ≡ value empty
slot_past [] i h = refl
slot_past (x ∷ xs) zero h = absurd (omega arith)
slot_past (x ∷ xs) (suc i) h = slot_past xs i (omega arith)

base_there : (xs : List Slot) (i : ℕ) (d : Slot) → i + 2 ≤ length xs → base_below i (map slot_view (reverse xs)) ≡ slot_value (slot_view (get_or xs (length xs - (i + 2)) d))
base_there xs i d h =
    let from : length xs - 1 - suc i ≡ length xs - (i + 2) = omega arith in
    ap slot_value (slot_there (reverse xs) (suc i) d (omega (arith, length-reverse xs)))
    ∙ ap (λ (x : Slot). slot_value (slot_view x)) (get_or-reverse xs (suc i) d (omega arith) ∙ ap (λ (k : ℕ). get_or xs k d) from)

pub base_at : (xs : List Slot) (i k : ℕ) (x : Slot) → x ≡ get_or xs k x → k + (i + 2) ≡ length xs → base_below i (map slot_view (reverse xs)) ≡ slot_value (slot_view x)
base_at xs i k x is at =
    let here : length xs - (i + 2) ≡ k = omega arith in
    base_there xs i x (omega arith) ∙ ap (λ (n : ℕ). slot_value (slot_view (get_or xs n x))) here ∙ sym (ap (λ (y : Slot). slot_value (slot_view y)) is)

pub base_past : (xs : List Slot) (i : ℕ) → length xs < i + 2 → base_below i (map slot_view (reverse xs)) ≡ empty
base_past xs i h = ap slot_value (slot_past (reverse xs) (suc i) (omega (arith, length-reverse xs)))

-- ---- by what there is

module _ (code : Code) (aim : Use) (name : List ℕ) (by : ByName) (gs : List Bool) (i : ℕ) (base : Val) (q : Path) (pc : ℕ) (st : List plain.Slot) (bs : List Back) (s : State) where
  pub lent_there : lends_place code.declared aim name by gs i base q s.memory ≡ true → binds_path code aim name by gs i base q pc st bs s ≡ done_then (lent q s.memory) bs s (then_at pc (path q ∷ st) bs)
  lent_there h = rw h refl

  pub copied_there : lends_place code.declared aim name by gs i base q s.memory ≡ false → binds_path code aim name by gs i base q pc st bs s ≡ uses code true (place_copied code.declared aim name by gs i base q s.memory) pc st bs s
  copied_there h = rw h refl

module _ (code : Code) (name : List ℕ) (by : ByName) (gs : List Bool) (v w : Val) (xs : List plain.Slot) (pc : ℕ) (st : List plain.Slot) (bs : List Back) (s : State) where
  pub instance_there : is_instance v s.memory ≡ true → calls_received code name by gs v w xs pc st bs s ≡ uses code false (late_called code.declared name by gs v w xs s.memory) pc st bs s
  instance_there h = rw h refl

  pub host_there : is_instance v s.memory ≡ false → calls_received code name by gs v w xs pc st bs s ≡ uses_member code name v w (host_arguments v name by xs) pc st bs s
  host_there h = rw h refl

module _ (code : Code) (q : Path) (vs : List Val) (pc : ℕ) (st : List plain.Slot) (bs : List Back) (s : State) where
  pub array_there : has_array q s.memory ≡ true → places_along code q vs pc st bs s ≡ done_then (element_by q vs s.memory) bs s (then_push_path pc st bs)
  array_there h = rw h refl

  pub other_there : has_array q s.memory ≡ false → places_along code q vs pc st bs s ≡ uses code true (item_along code.declared q vs s.memory) pc st bs s
  other_there h = rw h refl
