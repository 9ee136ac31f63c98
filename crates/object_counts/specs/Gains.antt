-- What each effect raises: the references in the values that it stores, holds or keeps, as soon as it does. What gives
-- way is held or waits, and counts as before; so no effect lowers a count.
use Rattle.std.specs.Prelude.{ℕ, suc, List, [], ◌∷◌, ◌++◌, length, map, Bool, true, Option, Some, None, if◌then◌else◌, nat_lt, slice_index_or}
use Rattle.vba_values.specs.declared.object.HostRef.{HostRef}
use Rattle.vba_values.specs.declared.object.ObjRef.TheVariants.{Nothing, Heap, Host}
use Rattle.vba_values.specs.declared.types.OpKind.TheVariants as op
use Rattle.vba_values.specs.Types.{Declared}
use Rattle.vba_values.specs.Val.{Val, empty, missing, object}
use Rattle.vba_values.specs.Coerce.{coerce_of}
use Rattle.sheet_host.specs.declared.members.HostMember.{HostMember}
use Rattle.sheet_host.specs.Members.{member_of}
use Rattle.arrays_udt.specs.Shapes.{shape_of}
use Rattle.bound_project.specs.Expressions.{Variable}
use Rattle.bound_project.specs.Project.{Declarations, procedure_at}
use Rattle.vba_meaning.specs.Paths.{Root, in_object, in_item, Path}
use Rattle.vba_meaning.specs.Memory.{Slot, Loop, Kept, walk, Memory, top, found, value_at, path_of, own_slots, received}
use Rattle.vba_meaning.specs.References.{objects_in, objects_in_values, objects_in_slots}
use Rattle.vba_meaning.specs.Effects.{Effect, Fine, Bad-at, Out, Tell, answered, operated, fitted, plain, set_object, read_path, replaceable, assignable, assigned}
use Rattle.vba_meaning.specs.Arrays.{numbers, bounds_of, redim_value, erased_value, walkable, walking, item_of}
use Rattle.vba_meaning.specs.Objects.{new_instance}
use Rattle.vba_meaning.specs.Collections.{CollectionMember, is_add, is_item, collection_member, item_found, collection_used}
use Rattle.vba_meaning.specs.Host.{as_given, are_places, item_by}

-- what is raised behind an effect, where that came to a value
abbrev pub gains_behind : {A : Type 0} → Effect A → (A → Memory → List ℕ) → List ℕ
gains_behind (Fine v m) f = f v m
gains_behind (Bad-at n m) f = []
gains_behind (Out w m) f = []
gains_behind (Tell es e) f = gains_behind e f

-- of an effect whose value is held or stored: what is in that value
abbrev pub given_gains : Effect Val → List ℕ
given_gains e = gains_behind e (λ v m. objects_in v)

-- ---- variables

-- a value is stored, where a value may be replaced
abbrev pub stored_gains : Path → Val → Memory → List ℕ
stored_gains p v m = gains_behind (assignable p m) (λ old m1. objects_in v)

-- Let stores what the value becomes
abbrev pub assigned_gains : Path → Val → Memory → List ℕ
assigned_gains p v m = gains_behind (answered (coerce_of v p.of) m) (λ w m1. stored_gains p w m1)

-- Let at a place: an object or item that an index gave keeps none
abbrev pub assigned_at_gains : Path → Val → Memory → List ℕ
assigned_at_gains p v m = at p.root
  where
    at : Root → List ℕ
    at (in_object o) = []
    at (in_item w) = []
    at root = gains_behind (plain v m) (λ w m1. assigned_gains p w m1)

-- Set stores an object that the place may have
abbrev pub set_at_gains : Path → Val → Memory → List ℕ
set_at_gains p v m = gains_behind (set_object p.of v m) (λ w m1. stored_gains p w m1)

-- ---- For and For Each

-- the counter takes a value, and is read
abbrev pub counted_gains : Variable → Val → Memory → List ℕ
counted_gains x v m = assigned_gains (path_of m x) v m ++ gains_behind (assigned (path_of m x) v m) (λ u m1. given_gains (read_path (path_of m1 x) m1))

-- Next reads the counter and adds the step
abbrev pub stepped_gains : Option Loop → Variable → Memory → List ℕ
stepped_gains None x m = []
stepped_gains (Some l) x m =
    given_gains (read_path (path_of m x) m) ++
    gains_behind (read_path (path_of m x) m) (λ v m1. gains_behind (plain v m1) (λ a m2. gains_behind (operated op.Add l.compare x.of l.step.of a l.step.value m2) (λ w m3. counted_gains x w m3)))

-- of the loop that its header began
abbrev pub next_round_gains : Variable → ℕ → Memory → List ℕ
next_round_gains x i m = stepped_gains (found (top m).loops i) x m

-- what is walked is kept
abbrev pub each_begun_gains : Val → Memory → List ℕ
each_begun_gains v m = gains_behind (walkable v m) (λ u m1. objects_in v)

-- the control variable takes an item
abbrev pub item_stored_gains : Variable → Val → Memory → List ℕ
item_stored_gains x v m = gains_behind (fitted (path_of m x).of v m) (λ w m1. stored_gains (path_of m1 x) w m1)

-- where there is a further one
abbrev pub next_item_gains : Variable → ℕ → Val → (next : ℕ) → Option Val → Memory → List ℕ
next_item_gains x i v k None m = []
next_item_gains x i v k (Some w) m = item_stored_gains x w (walking i true v (suc k) m)

-- of what a begun loop walks
abbrev pub each_by_gains : Variable → ℕ → Option Kept → Memory → List ℕ
each_by_gains x i (Some (walk true v k)) m = next_item_gains x i v k (item_of v k m) m
each_by_gains x i other m = []

-- by what the frame keeps for the loop
abbrev pub each_next_gains : Variable → ℕ → Memory → List ℕ
each_next_gains x i m = each_by_gains x i (found (top m).keeps i) m

-- ---- ReDim and Erase

-- the new array is stored; all that the old one has waits, also what Preserve has copied
abbrev pub redimmed_gains : Declarations → (preserve : Bool) → Option Declared → Path → List Val → Memory → List ℕ
redimmed_gains d preserve t p vs m =
    gains_behind (numbers vs m) (λ zs m1. gains_behind (assignable p m1) (λ old m2. gains_behind (answered (shape_of (bounds_of zs)) m2) (λ shape m3.
    given_gains (redim_value d preserve t shape p old m3))))

-- an array that is declared with bounds gets new elements
abbrev pub erased_gains : Declarations → Path → Memory → List ℕ
erased_gains d p m = gains_behind (erased_value d p.bounded (value_at m p) m) (λ v m1. gains_behind (replaceable p m1) (λ old m2. objects_in v))

-- ---- host objects

-- what the arguments of a member index is held
abbrev pub member_by_gains : HostRef → HostMember → List Val → (begun : Val) → Memory → List ℕ
member_by_gains r how vs begun m = if are_places r how (length vs) then given_gains (item_by begun vs m) else []

-- of a host object's member, by its name
abbrev pub member_gains : (name : List ℕ) → List Val → (base begun : Val) → Memory → List ℕ
member_gains name vs (object (Host r)) begun m = gains_behind (answered (member_of r name) m) (λ how m1. member_by_gains r how (as_given vs) begun m1)
member_gains name vs v begun m = []

-- of a member of a Collection, behind it: Add stores an item where there is such an object, and what another one gives is
-- held
abbrev pub added_gains : (number : ℕ) → Val → Memory → List ℕ
added_gains o v m = if nat_lt o (length m.objects) then objects_in v else []

abbrev pub used_gains : (number : ℕ) → CollectionMember → List Val → Val × ℕ → Memory → List ℕ
used_gains o is_add vs r m = added_gains o (slice_index_or vs 0 missing) m
used_gains o member vs r m = objects_in r.0

-- by its name
abbrev pub object_member_gains : (name : List ℕ) → List Val → (base : Val) → Memory → List ℕ
object_member_gains name vs (object (Heap id)) m =
    gains_behind (collection_member id.0 name m) (λ how m1. gains_behind (collection_used id.0 how (as_given vs) m1) (λ r m2. used_gains id.0 how (as_given vs) r m2))
object_member_gains name vs v m = []

-- a member that is assigned to: the item of a Collection that is found is held
abbrev pub through_gains : (number : ℕ) → CollectionMember → List Val → Memory → List ℕ
through_gains o is_item vs m = given_gains (item_found o vs m)
through_gains o member vs m = []

abbrev pub member_assigned_gains : (name : List ℕ) → List Val → (base begun : Val) → Memory → List ℕ
member_assigned_gains name vs (object (Heap id)) begun m = gains_behind (collection_member id.0 name m) (λ how m1. through_gains id.0 how (as_given vs) m1)
member_assigned_gains name vs base begun m = member_gains name vs base begun m

-- the item of an object that numbers lead to
abbrev pub place_at_gains : Path → List Val → Memory → List ℕ
place_at_gains p vs m = at (value_at m p)
  where
    at : Option Val → List ℕ
    at (Some (object o)) = given_gains (item_by (object o) vs m)
    at found = []

-- ---- objects and calls

-- a new object has its number held, and its fields have their first values
abbrev pub made_gains : Declarations → (class : ℕ) → Memory → List ℕ
made_gains d c m = objects_in_values (new_instance d c).fields ++ length m.objects ∷ []

-- what a read of a variable declared As New makes first
abbrev pub made_for_gains : Declarations → Path → Memory → List ℕ
made_for_gains d q m = at q.makes (value_at m q)
  where
    at : Option ℕ → Option Val → List ℕ
    at (Some c) (Some (object Nothing)) = made_gains d c m
    at makes v = []

-- and stores, where it made one
abbrev pub stored_made_gains : Path → Val → Memory → List ℕ
stored_made_gains q empty m = []
stored_made_gains q v m = stored_gains q v m

-- a call: its variables, its parameters and Me
abbrev pub entered_gains : Declarations → (procedure : ℕ) → Val → List Slot → List ℕ
entered_gains d p me xs = objects_in_slots (own_slots d (procedure_at d p) ++ map received xs) ++ objects_in me
