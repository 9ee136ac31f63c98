-- Ids that are stored beside a memory for the numbers of its objects, and follow its changes. No number is given again; an id
-- is, once its object has gone.
use Rattle.std.specs.Prelude.{◌≡◌, ℕ, zero, suc, ◌||◌, not, Bool, true, false, List, [], ◌∷◌, length, map, if◌then◌else◌, Option, Some, None, is_some, slice_index_or}
use Rattle.sheet_host.specs.Books.{Sheets}
use Rattle.bound_project.specs.Project.{Declarations, Project}
use Rattle.vba_meaning.specs.Memory.{Memory, Object, found, without, opening}
use Rattle.vba_meaning.specs.Meaning.{meaning}
use Rattle.memory_changes.specs.Among.{is_among}
use Rattle.memory_changes.specs.Changes.{Change, has_items, makes, has_told, goes, Row, none, first}

-- the numbers of objects, each with its id
abbrev pub Ids : Type 0
Ids = List (ℕ × ℕ)

abbrev pub id_of : Ids → (number : ℕ) → Option ℕ
id_of ids o = found ids o

abbrev pub in_use : Ids → List ℕ
in_use ids = map (λ e. e.1) ids

-- what an implementation chooses: the id of a new object, by those that are in use; one that isn't
abbrev pub GivesFree : (List ℕ → ℕ) → Type 0
GivesFree pick = (used : List ℕ) → is_among (pick used) used ≡ false

-- an object takes an id
abbrev pub with_id : (pick : List ℕ → ℕ) → (number : ℕ) → Ids → Ids
with_id pick o ids = (o, pick (in_use ids)) ∷ ids

-- ---- a change

-- an object of this number was made
abbrev pub was_made : List (Option Object) → (number : ℕ) → Bool
was_made [] o = false
was_made (b ∷ bs) zero = true
was_made (b ∷ bs) (suc o) = was_made bs o

-- one that is there keeps its id
abbrev pub with_id_if_gone : (pick : List ℕ → ℕ) → (number : ℕ) → List (Option Object) → Ids → Ids
with_id_if_gone pick o bs ids = if is_some (slice_index_or bs o None) || not (was_made bs o) then ids else with_id pick o ids

-- the ids after a change: a new object takes one, and that of an object that goes is in use no longer. No run has an object
-- that is gone tell its end or have items; a code might, and then the object takes an id anew
abbrev pub ids_after : {d : Declarations} → (pick : List ℕ → ℕ) → (m : Memory) → {m1 : Memory} → Change d m m1 → Ids → Ids
ids_after pick m (makes c) ids = with_id pick (length m.objects) ids
ids_after pick m (goes o) ids = without ids o
ids_after pick m (has_told o) ids = with_id_if_gone pick o m.objects ids
ids_after pick m (has_items o items keys e) ids = with_id_if_gone pick o m.objects ids
ids_after pick m change ids = ids

-- after a row of changes
abbrev pub ids_along : {d : Declarations} → (pick : List ℕ → ℕ) → {m m1 : Memory} → Row d m m1 → Ids → Ids
ids_along pick (none m) ids = ids
ids_along pick (first m m1 m2 c row) ids = ids_along pick row (ids_after pick m c ids)

-- ---- what ids are

-- there is an object of this number
abbrev pub IsThere : Memory → (number : ℕ) → Type 0
IsThere m o = (b : Object) × (slice_index_or m.objects o None ≡ Some b)

-- the objects that are there have an id, and no others; and no two have the same
pub record AreIds (ids : Ids) (m : Memory) : Type 0 where
  pub each : (o : ℕ) → IsThere m o → (i : ℕ) × (id_of ids o ≡ Some i)
  pub only : (o i : ℕ) → id_of ids o ≡ Some i → IsThere m o
  pub once : (o n i : ℕ) → id_of ids o ≡ Some i → id_of ids n ≡ Some i → o ≡ n

-- the stored ids that have followed a row of changes, from the memory with which a run begins
abbrev pub AreFound : (d : Declarations) → Sheets → (pick : List ℕ → ℕ) → Type 0
AreFound d book pick = (m : Memory) → (row : Row d (opening d book) m) → AreIds (ids_along pick row []) m

-- a run comes by changes to the state with which it ends, or in which it is going, and so do its ids
abbrev pub AreMeant : Project → Sheets → (turns : ℕ) → (pick : List ℕ → ℕ) → Type 0
AreMeant pr book turns pick =
    let m : Memory = (meaning pr book turns).state.memory in (row : Row pr.declared (opening pr.declared book) m) × AreIds (ids_along pick row []) m
