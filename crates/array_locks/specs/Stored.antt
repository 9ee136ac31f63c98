-- The lock counts that are stored beside a memory, and follow its changes: through how many lent places an array may not be
-- replaced.
use Rattle.std.specs.Prelude.{◌≡◌, ℕ, ◌+◌, ◌-◌, ◌==◌, nat_lt, ◌&&◌, Bool, true, false, List, [], ◌∷◌, ◌++◌, map, if◌then◌else◌}
use Rattle.arrays_udt.specs.declared.paths.PathStep.{PathStep}
use Rattle.arrays_udt.specs.Paths.{same_step}
use Rattle.sheet_host.specs.Books.{Sheets}
use Rattle.bound_project.specs.Project.{Declarations, Project}
use Rattle.vba_meaning.specs.Paths.{Root, Step, Path, plain_steps, same_root, any_moves, is_below}
use Rattle.vba_meaning.specs.Memory.{Slot, value, path, Kept, only, at_path, walk, Frame, Memory, top, received, paths_in_slots, paths_kept, paths_held, opening}
use Rattle.vba_meaning.specs.Meaning.{meaning}
use Rattle.memory_changes.specs.Changes.{Change, lends, lends_none, lends_again, raise_ends, enters, empties, leaves, keeps, drops, Row, none, first}

-- ---- what looking finds: how many paths that frames hold would lead nowhere where what is at a place is replaced

abbrev pub how_many_below : List Path → (place : Path) → ℕ
how_many_below [] q = 0
how_many_below (p ∷ ps) q = (if is_below p q then 1 else 0) + how_many_below ps q

abbrev pub locked : Memory → (place : Path) → ℕ
locked m q = how_many_below (paths_held m.frames) q

-- ---- places, and how often each is locked

pub record Place : Type 0 where
  pub root : Root
  pub steps : List PathStep

abbrev pub same_steps : List PathStep → List PathStep → Bool
same_steps [] [] = true
same_steps (s ∷ ss) (t ∷ ts) = same_step s t && same_steps ss ts
same_steps ss ts = false

abbrev pub same_place : Place → Place → Bool
same_place a b = same_root a.root b.root && same_steps a.steps b.steps

abbrev pub place_of : Path → Place
place_of p = record { root = p.root; steps = plain_steps p.steps }

-- the beginnings of a path from which it leads on through an array that can be replaced
abbrev pub beginnings : List Step → List (List PathStep)
beginnings [] = []
beginnings (s ∷ steps) = (if any_moves (s ∷ steps) then [] ∷ [] else []) ++ map (λ ss. s.step ∷ ss) (beginnings steps)

-- the places that a lent path locks
abbrev pub places_locked : Path → List Place
places_locked p = map (λ ss. record { root = p.root; steps = ss }) (beginnings p.steps)

abbrev pub Locks : Type 0
Locks = List (Place × ℕ)

abbrev pub lock_count : Locks → Place → ℕ
lock_count [] q = 0
lock_count (e ∷ es) q = if same_place e.0 q then e.1 else lock_count es q

abbrev pub lock : Locks → Place → Locks
lock [] q = (q, 1) ∷ []
lock (e ∷ es) q = if same_place e.0 q then (e.0, e.1 + 1) ∷ es else e ∷ lock es q

abbrev pub unlock : Locks → Place → Locks
unlock [] q = []
unlock (e ∷ es) q = if same_place e.0 q then (e.0, e.1 - 1) ∷ es else e ∷ unlock es q

abbrev pub lock_all : Locks → List Place → Locks
lock_all locks [] = locks
lock_all locks (q ∷ qs) = lock_all (lock locks q) qs

abbrev pub unlock_all : Locks → List Place → Locks
unlock_all locks [] = locks
unlock_all locks (q ∷ qs) = unlock_all (unlock locks q) qs

-- paths are lent, and no longer
abbrev pub lent_paths : Locks → List Path → Locks
lent_paths locks [] = locks
lent_paths locks (p ∷ ps) = lent_paths (lock_all locks (places_locked p)) ps

abbrev pub returned_paths : Locks → List Path → Locks
returned_paths locks [] = locks
returned_paths locks (p ∷ ps) = returned_paths (unlock_all locks (places_locked p)) ps

-- ---- a change

-- as many paths as there are among arguments
abbrev pub taken : List Slot → List Path → List Path
taken [] ps = []
taken (value v ∷ xs) ps = taken xs ps
taken (path q ∷ xs) [] = []
taken (path q ∷ xs) (p ∷ ps) = p ∷ taken xs ps

abbrev pub path_in : Kept → List Path
path_in (only v) = []
path_in (at_path p) = p ∷ []
path_in (walk begun v k) = []

-- the path of the block's entry that another one takes the place of, and those that are dropped
abbrev pub replaced_path : (header : ℕ) → List (ℕ × Kept) → List Path
replaced_path i [] = []
replaced_path i (e ∷ es) = if e.0 == i then path_in e.1 else if nat_lt i e.0 then [] else replaced_path i es

abbrev pub dropped_paths : (header : ℕ) → List (ℕ × Kept) → List Path
dropped_paths i [] = []
dropped_paths i (e ∷ es) = if e.0 == i then path_in e.1 ++ dropped_paths i es else dropped_paths i es

-- all that a frame holds
abbrev pub frame_paths : Frame → List Path
frame_paths f = f.pending ++ paths_in_slots f.slots ++ paths_kept f.keeps

-- the locks that are stored, after a change: those of what is lent are raised, and those of what no longer is are lowered.
-- A call that stands has the paths that were lent to it; no change of objects has to do with locks
abbrev pub locks_after : {d : Declarations} → (m : Memory) → {m1 : Memory} → Change d m m1 → Locks → Locks
locks_after m (lends p) locks = lent_paths locks (p ∷ [])
locks_after m lends_none locks = returned_paths locks (top m).pending
locks_after m (lends_again xs) locks = lent_paths locks (paths_in_slots xs)
locks_after m (raise_ends xs) locks = returned_paths locks (taken xs (top m).pending)
locks_after m (enters called p me xs) locks = lent_paths (returned_paths locks (taken xs (top m).pending)) (paths_in_slots (map received xs))
locks_after m empties locks = returned_paths locks (paths_kept (top m).keeps)
locks_after m leaves locks = returned_paths locks (frame_paths (top m))
locks_after m (keeps i k) locks = lent_paths (returned_paths locks (replaced_path i (top m).keeps)) (path_in k)
locks_after m (drops i) locks = returned_paths locks (dropped_paths i (top m).keeps)
locks_after m change locks = locks

-- after a row of changes
abbrev pub locks_along : {d : Declarations} → {m m1 : Memory} → Row d m m1 → Locks → Locks
locks_along (none m) locks = locks
locks_along (first m m1 m2 c row) locks = locks_along row (locks_after m c locks)

-- the stored counts that have followed a row of changes, from the memory with which a run begins, are those that looking finds
abbrev pub AreFound : (d : Declarations) → Sheets → Type 0
AreFound d book = (m : Memory) → (row : Row d (opening d book) m) → (q : Path) → lock_count (locks_along row []) (place_of q) ≡ locked m q

-- a run comes by changes to the state with which it ends, or in which it is going, and the counts that have followed them
-- are those that looking finds there
abbrev pub AreMeant : Project → Sheets → (turns : ℕ) → Type 0
AreMeant pr book turns =
    let m : Memory = (meaning pr book turns).state.memory in (row : Row pr.declared (opening pr.declared book) m) × ((q : Path) → lock_count (locks_along row []) (place_of q) ≡ locked m q)
