-- Changes of the memory that rows are made of: the running frame, places that are written, blocks and Sets.
use Rattle.std.proofs.Common.{◌≡◌, ℕ, zero, suc, Bool, true, false, List, [], ◌∷◌, ◌++◌, length, Option, Some, None, refl, ap}
use Rattle.std.specs.Prelude.{◌==◌, nat_lt, if◌then◌else◌, slice_get, slice_set}
use Rattle.vba_values.specs.Val.{Val}
use Rattle.arrays_udt.specs.Paths.{with_path}
use Rattle.bound_project.specs.Project.{Declarations}
use Rattle.vba_meaning.specs.Paths.{Root, in_frame, in_project, in_fields, in_block, in_object, in_item, Path, plain_steps}
use Rattle.vba_meaning.specs.Memory.{Slot, value, path, Kept, only, at_path, walk, Frame, Memory, first_or, rest, frame_at, with_slot, value_in, found, put, with_kept, value_kept, root_value, with_root, written, with_value, value_at, value_or_empty, paths_in_slots, paths_kept, paths_held}
use Rattle.vba_meaning.specs.References.{hold, displaced, replaced}
use Rattle.memory_changes.specs.Changes.{Aside, Row, none, takes}
use Rattle.memory_changes.proofs.Rows.{row_then, one, away}

-- the paths of a frame that runs
pub paths_top : (fs : List Frame) → paths_held (first_or fs ∷ rest fs) ≡ paths_held fs
paths_top [] = refl
paths_top (f ∷ fs) = refl

-- a value takes the place of a value
slots_set : (xs : List Slot) (i : ℕ) (old w : Val) → value_in (slice_get xs i) ≡ Some old → paths_in_slots (slice_set xs i (value w)) ≡ paths_in_slots xs
slots_set [] zero old w e = refl
slots_set [] (suc i) old w e = refl
slots_set (value v ∷ xs) zero old w e = refl
slots_set (path q ∷ xs) zero old w e = absurd cc
slots_set (value v ∷ xs) (suc i) old w e = slots_set xs i old w e
slots_set (path q ∷ xs) (suc i) old w e = ap (λ ps. q ∷ ps) (slots_set xs i old w e)

frame_paths : Frame → List Path → List Path
frame_paths f ps = f.pending ++ paths_in_slots f.slots ++ paths_kept f.keeps ++ ps

with_slots : (f : Frame) (qs ps : List Path) → qs ≡ paths_in_slots f.slots → f.pending ++ qs ++ paths_kept f.keeps ++ ps ≡ f.pending ++ paths_in_slots f.slots ++ paths_kept f.keeps ++ ps
with_slots f qs ps e = ap (λ rs. f.pending ++ rs ++ paths_kept f.keeps ++ ps) e

with_keeps : (f : Frame) (qs ps : List Path) → qs ≡ paths_kept f.keeps → f.pending ++ paths_in_slots f.slots ++ qs ++ ps ≡ f.pending ++ paths_in_slots f.slots ++ paths_kept f.keeps ++ ps
with_keeps f qs ps e = ap (λ rs. f.pending ++ paths_in_slots f.slots ++ rs ++ ps) e

with_rest : (f : Frame) (qs ps : List Path) → qs ≡ ps → f.pending ++ paths_in_slots f.slots ++ paths_kept f.keeps ++ qs ≡ f.pending ++ paths_in_slots f.slots ++ paths_kept f.keeps ++ ps
with_rest f qs ps e = ap (λ rs. f.pending ++ paths_in_slots f.slots ++ paths_kept f.keeps ++ rs) e

slot_paths : (fs : List Frame) (k i : ℕ) (old w : Val) → value_in (slice_get (frame_at fs k).slots i) ≡ Some old → paths_held (with_slot fs k i (value w)) ≡ paths_held fs
slot_paths [] k i old w e = refl
slot_paths (f ∷ fs) k i old w e = by_test (length fs == k) e (λ h. slot_paths fs k i old w h) where
  by_test : (b : Bool) → value_in (slice_get (if b then f else frame_at fs k).slots i) ≡ Some old
      → (value_in (slice_get (frame_at fs k).slots i) ≡ Some old → paths_held (with_slot fs k i (value w)) ≡ paths_held fs)
      → paths_held (if b then record f { slots = slice_set f.slots i (value w) } ∷ fs else f ∷ with_slot fs k i (value w)) ≡ paths_held (f ∷ fs)
  by_test true h more = with_slots f (paths_in_slots (slice_set f.slots i (value w))) (paths_held fs) (slots_set f.slots i old w h)
  by_test false h more = with_rest f (paths_held (with_slot fs k i (value w))) (paths_held fs) (more h)

-- and so of what a block keeps
kept_put : (es : List (ℕ × Kept)) (i : ℕ) (old w : Val) → value_kept (found es i) ≡ Some old → paths_kept (put i (only w) es) ≡ paths_kept es
kept_put [] i old w e = refl
kept_put ((j, k) ∷ es) i old w e = by_tests (j == i) (nat_lt i j) e (λ h. kept_put es i old w h) where
  by_kept : (k : Kept) → value_kept (Some k) ≡ Some old → paths_kept ((i, only w) ∷ es) ≡ paths_kept ((j, k) ∷ es)
  by_kept (only v) h = refl
  by_kept (at_path p) h = absurd cc
  by_kept (walk begun v n) h = refl

  behind_kept : (k : Kept) → paths_kept (put i (only w) es) ≡ paths_kept es → paths_kept ((j, k) ∷ put i (only w) es) ≡ paths_kept ((j, k) ∷ es)
  behind_kept (only v) h = h
  behind_kept (at_path p) h = ap (λ ps. p ∷ ps) h
  behind_kept (walk begun v n) h = h

  by_tests : (b c : Bool) → value_kept (if b then Some k else found es i) ≡ Some old → (value_kept (found es i) ≡ Some old → paths_kept (put i (only w) es) ≡ paths_kept es)
      → paths_kept (if b then (i, only w) ∷ es else if c then (i, only w) ∷ (j, k) ∷ es else (j, k) ∷ put i (only w) es) ≡ paths_kept ((j, k) ∷ es)
  by_tests true c h more = by_kept k h
  by_tests false true h more = refl
  by_tests false false h more = behind_kept k (more h)

block_paths : (fs : List Frame) (k i : ℕ) (old w : Val) → value_kept (found (frame_at fs k).keeps i) ≡ Some old → paths_held (with_kept fs k i (only w)) ≡ paths_held fs
block_paths [] k i old w e = refl
block_paths (f ∷ fs) k i old w e = by_test (length fs == k) e (λ h. block_paths fs k i old w h) where
  by_test : (b : Bool) → value_kept (found (if b then f else frame_at fs k).keeps i) ≡ Some old
      → (value_kept (found (frame_at fs k).keeps i) ≡ Some old → paths_held (with_kept fs k i (only w)) ≡ paths_held fs)
      → paths_held (if b then record f { keeps = put i (only w) f.keeps } ∷ fs else f ∷ with_kept fs k i (only w)) ≡ paths_held (f ∷ fs)
  by_test true h more = with_keeps f (paths_kept (put i (only w) f.keeps)) (paths_held fs) (kept_put f.keeps i old w h)
  by_test false h more = with_rest f (paths_held (with_kept fs k i (only w))) (paths_held fs) (more h)

-- what lies outside of frames and objects
pub beside : {m m1 : Memory} → m1.objects ≡ m.objects → m1.next_set ≡ m.next_set → m1.frames ≡ m.frames → Aside m m1
beside a b c = record { objects = a; next_set = b; paths = ap paths_held c }

module _ (d : Declarations) where
  pub hold_row : (v : Val) (m : Memory) → Row d m (hold v m)
  hold_row v m = away d (record { objects = refl; next_set = refl; paths = paths_top m.frames })

  pub displaced_row : (v : Val) (m : Memory) → Row d m (displaced v m)
  displaced_row v m = away d (record { objects = refl; next_set = refl; paths = paths_top m.frames })

  -- a place takes another value
  root_row : (m : Memory) (r : Root) (old w : Val) → root_value m r ≡ Some old → Row d m (with_root m r w)
  root_row m (in_frame k x) old w e = away d (record { objects = refl; next_set = refl; paths = slot_paths m.frames k x old w e })
  root_row m (in_project x) old w e = away d (beside refl refl refl)
  root_row m (in_fields o i) old w e = one d (takes o i old w e)
  root_row m (in_block k i) old w e = away d (record { objects = refl; next_set = refl; paths = block_paths m.frames k i old w e })
  root_row m (in_object o) old w e = none m
  root_row m (in_item v) old w e = none m

  pub value_row : (m : Memory) (p : Path) (w : Val) → Row d m (with_value m p w)
  value_row m p w = by_root (root_value m p.root) refl where
    by_root : (x : Option Val) → root_value m p.root ≡ x → Row d m (written m p x w)
    by_root None e = none m
    by_root (Some old) e = root_row m p.root old (with_path old (plain_steps p.steps) w) e

  pub replaced_row : (m : Memory) (p : Path) (w : Val) → Row d m (replaced p w m)
  replaced_row m p w = row_then d (value_row m p w) (displaced_row (value_or_empty (value_at m p)) (with_value m p w))
