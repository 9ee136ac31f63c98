-- What a step of the machine does to what objects have and to the places that frames lead to: one small change after
-- another. What is stored beside the memory, such as links and locks, follows these changes.
use Rattle.std.specs.Prelude.{◌≡◌, ℕ, ◌+◌, List, [], ◌∷◌, ◌++◌, Bool, true, Option, Some, None, slice_get}
use Rattle.vba_values.specs.declared.object.ObjRef.TheVariants.{Heap}
use Rattle.vba_values.specs.Val.{Val}
use Rattle.bound_project.specs.Project.{Declarations}
use Rattle.vba_meaning.specs.Paths.{Path}
use Rattle.vba_meaning.specs.Memory.{Slot, Kept, Memory, top, with_top, frame_left, without, put, object_at, with_object, with_field, paths_held, entered}
use Rattle.vba_meaning.specs.References.{as_told, emptied}
use Rattle.vba_meaning.specs.Effects.{is_collection, is_with_events, with_set_number, unlent}
use Rattle.vba_meaning.specs.Events.{lent_again, raise_over}
use Rattle.vba_meaning.specs.Objects.{new_instance}
use Rattle.vba_meaning.specs.Collections.{with_items}

-- the objects, the next number of a Set and the places to which frames lead are as they were; all else may differ
pub record Aside (m m1 : Memory) : Type 0 where
  pub objects : m1.objects ≡ m.objects
  pub next_set : m1.next_set ≡ m.next_set
  pub paths : paths_held m1.frames ≡ paths_held m.frames

-- a memory and the one that comes of it
pub data Change (d : Declarations) (m : Memory) : Memory → Type 0 where
  aside : (m1 : Memory) → Aside m m1 → Change d m m1
  -- a variable of an object takes a value
  takes : (number field : ℕ) → (old v : Val) → slice_get (object_at m number).fields field ≡ Some old → Change d m (with_object m number (Some (with_field (object_at m number) field v)))
  -- a WithEvents variable takes the next number of a Set, or none
  connects : (number field : ℕ) → is_with_events field (object_at m number).set_numbers ≡ true
      → Change d m (record (with_set_number number field (Some m.next_set) m) { next_set = m.next_set + 1 })
  disconnects : (number field : ℕ) → is_with_events field (object_at m number).set_numbers ≡ true → Change d m (with_set_number number field None m)
  -- a Collection has these items
  has_items : (number : ℕ) → (items : List Val) → (keys : List (Option (List ℕ))) → is_collection (Heap (record { 0 = number })) m ≡ true → Change d m (with_items number items keys m)
  -- an object is made, has told its end, and is no longer there
  makes : (class : ℕ) → Change d m (record m { objects = m.objects ++ Some (new_instance d class) ∷ [] })
  has_told : (number : ℕ) → Change d m (as_told number m)
  goes : (number : ℕ) → Change d m (with_object m number None)
  -- a place is lent to a call that doesn't stand yet, and those of such calls are lent no longer
  lends : (p : Path) → Change d m (with_top m (record (top m) { pending = p ∷ (top m).pending }))
  lends_none : Change d m (unlent m)
  -- the places that a raise lends, while it isn't over
  lends_again : (xs : List Slot) → Change d m (lent_again xs m)
  raise_ends : (xs : List Slot) → Change d m (raise_over xs m)
  -- a call stands; its frame is emptied, but for its places; it is left
  enters : (called : Bool) → (procedure : ℕ) → (me : Val) → (xs : List Slot) → Change d m (entered d called procedure me xs m)
  empties : Change d m (with_top m (emptied (top m)))
  leaves : Change d m (frame_left m)
  -- a block keeps something for its statements, or nothing any more
  keeps : (header : ℕ) → (k : Kept) → Change d m (with_top m (record (top m) { keeps = put header k (top m).keeps }))
  drops : (header : ℕ) → Change d m (with_top m (record (top m) { keeps = without (top m).keeps header }))

-- one change after another
pub data Row (d : Declarations) : Memory → Memory → Type 0 where
  none : (m : Memory) → Row d m m
  first : (m m1 m2 : Memory) → Change d m m1 → Row d m1 m2 → Row d m m2
