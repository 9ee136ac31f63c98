-- Uses of members that are found in the run.
use Rattle.std.proofs.Common.{ℕ, suc, ◌<◌, Bool, true, false, List, [], ◌∷◌, drop, take, Option, Some, None}
use Rattle.std.specs.Prelude.{◌==◌, not, ◌||◌, if◌then◌else◌, slice_index_or}
use Rattle.vba_values.specs.declared.object.ObjRef.TheVariants.{Nothing, Heap}
use Rattle.vba_values.specs.Val.{Val, missing, object}
use Rattle.bound_project.specs.Expressions.{ByName}
use Rattle.bound_project.specs.Project.{Declarations, Parameter, Member, is_variable, is_procedure, is_property, procedure_at}
use Rattle.vba_meaning.specs.Paths.{Path}
use Rattle.vba_meaning.specs.Memory.{Slot, value, path, Memory, top, number_of}
use Rattle.vba_meaning.specs.References.{times}
use Rattle.vba_meaning.specs.Effects.{Effect, on_fine, slot_values, slot_left_out, packed}
use Rattle.vba_meaning.specs.Collections.{CollectionMember, is_item, found_or}
use Rattle.vba_meaning.specs.Host.{as_given, member_there, member_assigned}
use Rattle.vba_meaning.specs.ByName.{named_there, value_given, values_given, names_of_member, in_parameter_order}
use Rattle.bound_project.specs.Parameters.{parameters_of, without_last, last_type}
use Rattle.vba_meaning.specs.Defaults.{by_let, in_member, as_operand, give_way, fit_to, let_item, set_item, Next, over_with, is_instance, class_of_value, can_be_object, nothing_more, put, most_passed}
use Rattle.vba_meaning.specs.LateBound.{Use, reading, assigning, setting, Way, by_variable, by_call, by_setter, all_taken, given_twice, any_lacks, arguments_fit, argument_of, slot_or_left, slot_of, arranged_from, arranged, member_named, variable_named, public_variable, get_for_object, assigned_way, get_alone, set_by, way_of, found_way, way_by_name, taken_by_way, has_names, indexes, what_is_indexed, way_there, host_there, late_there, how_many, tasks_for, parameter_for, keeps_object, argument_tasks, value_bound, place_copied, call_way, late_called, host_arguments, let_element, element_set, let_indexed, let_plain, let_way, item_let, host_let, late_let, set_way, late_set}
use Rattle.object_lives.proofs.Values.{none_in, in_then, Refers}
use Rattle.object_lives.proofs.Held.{World, Asked, Reach, bare_from, Values, PathIn, SlotIn, Slots, Tasks, slots_append, nth_slot, packed_in, slots_taken, slots_dropped, values_append, values_taken, values_dropped, values_of_slots}
use Rattle.object_lives.proofs.Near.{Near, reach, given_root, Ready}
use Rattle.object_lives.proofs.Chains.{Any, Given, GivenAll, GivenPath, GivenSlots, still, still_all, still_slots, Safe, fine, bad, then_next, then_safe, both}
use Rattle.object_lives.proofs.Variables.{set_object_safe, set_at_safe}
use Rattle.object_lives.proofs.Items.{collection_member_safe, item_found_safe}
use Rattle.object_lives.proofs.Hosts.{member_there_safe, named_there_safe, member_assigned_safe, member_not_set_safe}
use Rattle.object_lives.proofs.Uses.{Bare, bare_but_last, Uses, over_safe, nothing_safe, read_variable_safe, in_place_safe, index_along_safe, put_safe, written_safe, let_at_safe, let_along_safe, set_along_safe, tasks_safe, use_then_safe}

-- ---- arguments in the order of the parameters

or_left : (hs : Reach) (q : Parameter) (x : Slot) → SlotIn (bare_from 0) (slot_left_out q) → SlotIn hs x → SlotIn hs (slot_or_left q x)
or_left hs q (value missing) b h = in_then b (none_in hs.held)
or_left hs q (value v) b h = h
or_left hs q (path p) b h = h

slot_of_in : (hs : Reach) (q : Parameter) (xs : List Slot) (i : Option ℕ) → SlotIn (bare_from 0) (slot_left_out q) → Slots hs xs → SlotIn hs (slot_of q xs i)
slot_of_in hs q xs None b h = in_then b (none_in hs.held)
slot_of_in hs q xs (Some i) b h = or_left hs q (slice_index_or xs i (value missing)) b (nth_slot hs xs i (value missing) h (none_in hs.held))

arranged_from_in : (hs : Reach) (by : ByName) (j : ℕ) (qs : List Parameter) (xs : List Slot) → Bare qs → Slots hs xs → Slots hs (arranged_from by j qs xs)
arranged_from_in hs by j [] xs b h = tt
arranged_from_in hs by j (q ∷ qs) xs b h = (by_test q.many, arranged_from_in hs by (suc j) qs xs b.1 h) where
  by_test : (t : Bool) → SlotIn hs (if t then value (packed (drop j (take by.before xs))) else slot_of q xs (argument_of by j q))
  by_test true = packed_in hs (drop j (take by.before xs)) (slots_dropped hs j (take by.before xs) (slots_taken hs by.before xs h))
  by_test false = slot_of_in hs q xs (argument_of by j q) b.0 h

arranged_in : (hs : Reach) (qs : List Parameter) (by : ByName) (xs : List Slot) → Bare qs → Slots hs xs → Slots hs (arranged qs by xs)
arranged_in hs qs by xs b h = arranged_from_in hs by 0 qs xs b h

value_given_in : (hs : List ℕ) (p : ℕ) (qs : List ℕ) (vs : List Val) → Values hs vs → Refers hs (value_given p qs vs)
value_given_in hs p [] vs h = none_in hs
value_given_in hs p (q ∷ qs) [] h = none_in hs
value_given_in hs p (q ∷ qs) (v ∷ vs) h = by_test (q == p) (value_given_in hs p qs vs h.1) where
  by_test : (b : Bool) → Refers hs (value_given p qs vs) → Refers hs (if b then v else value_given p qs vs)
  by_test true k = h.0
  by_test false k = k

values_given_in : (hs : List ℕ) (p : ℕ) (xs : List (List ℕ)) (qs : List ℕ) (vs : List Val) → Values hs vs → Values hs (values_given p xs qs vs)
values_given_in hs p [] qs vs h = tt
values_given_in hs p (x ∷ xs) qs vs h = (value_given_in hs p qs vs h, values_given_in hs (suc p) xs qs vs h)

pub in_order_in : (hs : List ℕ) (base : Val) (name : List ℕ) (by : ByName) (vs : List Val) → Values hs vs → Values hs (in_parameter_order base name by vs)
in_order_in hs base name by vs h =
    values_append hs (take by.before vs) _ (values_taken hs by.before vs h) (values_given_in hs by.before (drop by.before (names_of_member base name)) _ (drop by.before vs) (values_dropped hs by.before vs h))

pub host_arguments_in : (hs : Reach) (base : Val) (name : List ℕ) (by : ByName) (xs : List Slot) → Slots hs xs → Values hs.held (host_arguments base name by xs)
host_arguments_in hs base name by xs h = by_test (has_names by) where
  by_test : (b : Bool) → Values hs.held (if b then in_parameter_order base name by (slot_values xs) else slot_values xs)
  by_test true = in_order_in hs.held base name by (slot_values xs) (values_of_slots hs xs h)
  by_test false = values_of_slots hs xs h

-- what an argument is made before it goes to its parameter refers to nothing
tasks_for_in : (hs : Reach) (q : Option Parameter) → Tasks hs (tasks_for q)
tasks_for_in hs None = tt
tasks_for_in hs (Some q) = by_tests q.many (can_be_object q.of) where
  by_tests : (a b : Bool) → Tasks hs (if a then [] else if b then fit_to q.of ∷ [] else as_operand ∷ fit_to q.of ∷ [])
  by_tests true b = tt
  by_tests false true = (tt, tt)
  by_tests false false = (tt, (tt, tt))

argument_tasks_in : (hs : Reach) (d : Declarations) (aim : Use) (name : List ℕ) (by : ByName) (gs : List Bool) (i : ℕ) (base : Val) (m : Memory) → Tasks hs (argument_tasks d aim name by gs i base m)
argument_tasks_in hs d aim name by gs i base m = by_tests (is_instance base m) (keeps_object name by i) where
  by_tests : (a b : Bool) → Tasks hs (if a then tasks_for (parameter_for d aim name by gs i base m) else if b then [] else give_way ∷ [])
  by_tests true b = tasks_for_in hs (parameter_for d aim name by gs i base m)
  by_tests false true = tt
  by_tests false false = (tt, tt)

-- ---- what is found by a name

-- a variable of an object is no item of a Collection
abbrev pub WayIn : Reach → Way → Type 0
WayIn hs (by_variable q) = PathIn hs q
WayIn hs (by_call p property) = Unit {0}
WayIn hs (by_setter p) = Unit {0}

abbrev Found : Reach → Option Way → Type 0
Found hs None = Unit {0}
Found hs (Some w) = WayIn hs w

if_found : (hs : Reach) (b : Bool) (x y : Option Way) → Found hs x → Found hs y → Found hs (if b then x else y)
if_found hs true x y h k = h
if_found hs false x y h k = k

get_found : (hs : Reach) (d : Declarations) (p : Option ℕ) → Found hs (get_for_object d p)
get_found hs d None = tt
get_found hs d (Some p) = if_found hs (can_be_object (procedure_at d p).result.of) (Some (by_call p true)) None tt tt

assigned_found : (hs : Reach) (d : Declarations) (k : ℕ) (v : Val) (x : Member) (m : Memory) → Asked hs.asks (0 < times (number_of v) hs.roots) → Found hs (assigned_way d k v x m)
assigned_found hs d k v (is_variable i makes) m h = h
assigned_found hs d k v (is_procedure p) m h = if_found hs _ None (Some (by_call p false)) tt tt
assigned_found hs d k v (is_property reads (Some p) sets) m h = if_found hs _ (get_for_object d reads) (Some (by_setter p)) (get_found hs d reads) tt
assigned_found hs d k v (is_property reads None sets) m h = get_found hs d reads

alone_found : (hs : Reach) (d : Declarations) (k : ℕ) (p : Option ℕ) → Found hs (get_alone d k p)
alone_found hs d k None = tt
alone_found hs d k (Some p) = if_found hs _ (get_for_object d (Some p)) None (get_found hs d (Some p)) tt

set_found : (hs : Reach) (d : Declarations) (k : ℕ) (reads sets : Option ℕ) → Found hs (set_by d k reads sets)
set_found hs d k reads None = alone_found hs d k reads
set_found hs d k reads (Some p) = if_found hs _ (get_alone d k reads) (Some (by_setter p)) (alone_found hs d k reads) tt

way_found : (hs : Reach) (d : Declarations) (aim : Use) (k : ℕ) (v : Val) (x : Member) (m : Memory) → Asked hs.asks (0 < times (number_of v) hs.roots) → Found hs (way_of d aim k v x m)
way_found hs d reading k v (is_variable i makes) m h = h
way_found hs d reading k v (is_procedure p) m h = tt
way_found hs d reading k v (is_property (Some p) lets sets) m h = tt
way_found hs d reading k v (is_property None lets sets) m h = tt
way_found hs d assigning k v x m h = assigned_found hs d k v x m h
way_found hs d setting k v (is_variable i makes) m h = h
way_found hs d setting k v (is_procedure p) m h = tt
way_found hs d setting k v (is_property reads lets sets) m h = set_found hs d k reads sets

found_way_in : (hs : Reach) (d : Declarations) (aim : Use) (k : ℕ) (v : Val) (x : Option Member) (m : Memory) → Asked hs.asks (0 < times (number_of v) hs.roots) → Found hs (found_way d aim k v x m)
found_way_in hs d aim k v None m h = tt
found_way_in hs d aim k v (Some x) m h = way_found hs d aim k v x m h

module _ (Sure : World) where
  abbrev GivenWay : Memory → Way → Type 0
  GivenWay m w = WayIn (reach Sure.asks m) w

  way_safe : (n : ℕ) (x : Option Way) (m : Memory) → (Sure.sure → Found (reach Sure.asks m) x) → Safe Sure GivenWay m (found_or n x m)
  way_safe n None m h = bad n m
  way_safe n (Some w) m h = fine h

  -- ---- the place of a public variable

  variable_named_safe : (d : Declarations) (v : Val) (x : Option Member) (m : Memory) → (Sure.sure → Given m v) → Safe Sure (GivenPath Sure.asks) m (variable_named d v x m)
  variable_named_safe d v None m h = bad 438 m
  variable_named_safe d v (Some (is_variable i makes)) m h = fine (λ s. given_root Sure.asks m v (h s))
  variable_named_safe d v (Some (is_procedure p)) m h = bad 438 m
  variable_named_safe d v (Some (is_property reads lets sets)) m h = bad 438 m

  pub public_variable_safe : (d : Declarations) (name : List ℕ) (v : Val) (m : Memory) → (Sure.sure → Given m v) → Safe Sure (GivenPath Sure.asks) m (public_variable d name v m)
  public_variable_safe d name (object Nothing) m h = bad 91 m
  public_variable_safe d name (object o) m h = variable_named_safe d (object o) (if is_instance (object o) m then member_named (class_of_value d (object o) m).members name else None) m h
  public_variable_safe d name v m h = bad 424 m

  module _ (d : Declarations) (bare : Sure.sure → (p : ℕ) → Bare (parameters_of d p)) where
    -- what is found by a name, and then
    found_safe : (aim : Use) (name : List ℕ) (gs : List Bool) (v : Val) {f : Way → Memory → Effect Next} (m : Memory) → (Sure.sure → Ready Sure.asks m) → (Sure.sure → Given m v)
        → ((w : Way) (m1 : Memory) → (Sure.sure → Ready Sure.asks m1) → (Sure.sure → Near Sure.asks m m1) → (Sure.sure → GivenWay m1 w) → Uses Sure m1 (f w m1)) → Uses Sure m (on_fine (found_or 438 (way_by_name d aim name gs v m) m) f)
    found_safe aim name gs v m r h k =
        then_safe r (way_safe 438 (way_by_name d aim name gs v m) m (λ s. found_way_in (reach Sure.asks m) d aim (how_many gs) v (member_named (class_of_value d v m).members name) m (given_root Sure.asks m v (h s)))) k

    -- ---- a use begins

    fit_safe : (ps : List Parameter) (by : ByName) (gs : List Bool) (m : Memory) → Safe Sure Any m (arguments_fit ps by gs m)
    fit_safe ps by gs m = both (not (all_taken ps by 0 gs) || given_twice ps by gs by.names) (bad 450 m) (both (any_lacks by gs 0 ps) (bad 449 m) (fine (λ s. tt)))

    what_is_indexed_safe : (aim : Use) (v : Val) (w : Way) (m : Memory) → (Sure.sure → Ready Sure.asks m) → (Sure.sure → Given m v) → (Sure.sure → GivenWay m w) → Uses Sure m (what_is_indexed d aim v w m)
    what_is_indexed_safe reading v (by_variable q) m r h g = read_variable_safe Sure d bare q m r g
    what_is_indexed_safe assigning v (by_variable q) m r h g = fine (λ s. none_in (top m).held)
    what_is_indexed_safe setting v (by_variable q) m r h g = fine (λ s. none_in (top m).held)
    what_is_indexed_safe reading v (by_call p property) m r h g = fine (λ s. (h s, tt, tt))
    what_is_indexed_safe assigning v (by_call p property) m r h g = fine (λ s. (h s, tt, tt))
    what_is_indexed_safe setting v (by_call p property) m r h g = fine (λ s. (h s, tt, tt))
    what_is_indexed_safe reading v (by_setter p) m r h g = fine (λ s. none_in (top m).held)
    what_is_indexed_safe assigning v (by_setter p) m r h g = fine (λ s. none_in (top m).held)
    what_is_indexed_safe setting v (by_setter p) m r h g = fine (λ s. none_in (top m).held)

    way_there_safe : (aim : Use) (by : ByName) (gs : List Bool) (v : Val) (w : Way) (m : Memory) → (Sure.sure → Ready Sure.asks m) → (Sure.sure → Given m v) → (Sure.sure → GivenWay m w) → Uses Sure m (way_there d aim by gs v w m)
    way_there_safe aim by gs v w m r h g =
        both (indexes d by gs w) (what_is_indexed_safe aim v w m r h g) (then_next (fit_safe (taken_by_way d w) by gs m) (λ u m1 n1 q1. fine (λ s. none_in (top m1).held)))

    by_names_safe : (name : List ℕ) (by : ByName) (gs : List Bool) (v : Val) (m : Memory)
        → Uses Sure m (if has_names by then over_with (named_there name by (how_many gs) v m) else over_with (member_there d name (how_many gs) v m))
    by_names_safe name by gs v m = both (has_names by) (over_safe Sure (named_there_safe Sure name by (how_many gs) v m)) (over_safe Sure (member_there_safe Sure d name (how_many gs) v m))

    host_there_safe : (aim : Use) (name : List ℕ) (by : ByName) (gs : List Bool) (v : Val) (m : Memory) → Uses Sure m (host_there d aim name by gs v m)
    host_there_safe setting name by gs v m = nothing_safe Sure (member_not_set_safe Sure v m)
    host_there_safe reading name by gs v m = by_names_safe name by gs v m
    host_there_safe assigning name by gs v m = by_names_safe name by gs v m

    pub late_there_safe : (aim : Use) (name : List ℕ) (by : ByName) (gs : List Bool) (v : Val) (m : Memory) → (Sure.sure → Ready Sure.asks m) → (Sure.sure → Given m v) → Uses Sure m (late_there d aim name by gs v m)
    late_there_safe aim name by gs v m r h =
        both (is_instance v m) (found_safe aim name gs v m r h (λ w m1 r1 n1 q1. way_there_safe aim by gs v w m1 r1 (still n1 v h) q1)) (host_there_safe aim name by gs v m)

    -- ---- arguments

    pub value_bound_safe : (aim : Use) (name : List ℕ) (by : ByName) (gs : List Bool) (i : ℕ) (base v : Val) (m : Memory) → (Sure.sure → Ready Sure.asks m) → (Sure.sure → Given m v) → Uses Sure m (value_bound d aim name by gs i base v m)
    value_bound_safe aim name by gs i base missing m r h = fine h
    value_bound_safe aim name by gs i base v m r h = tasks_safe Sure d bare (argument_tasks d aim name by gs i base m) v m r (λ s. argument_tasks_in (reach Sure.asks m) d aim name by gs i base m) h

    pub place_copied_safe : (aim : Use) (name : List ℕ) (by : ByName) (gs : List Bool) (i : ℕ) (base : Val) (q : Path) (m : Memory) → (Sure.sure → Ready Sure.asks m) → (Sure.sure → GivenPath Sure.asks m q)
        → Uses Sure m (place_copied d aim name by gs i base q m)
    place_copied_safe aim name by gs i base q m r h =
        use_then_safe Sure d bare (argument_tasks d aim name by gs i base m) r (λ s. argument_tasks_in (reach Sure.asks m) d aim name by gs i base m) (read_variable_safe Sure d bare q m r h)

    -- ---- a member is read or called

    call_way_safe : (by : ByName) (gs : List Bool) (base begun : Val) (xs : List Slot) (w : Way) (m : Memory) → (Sure.sure → Ready Sure.asks m) → (Sure.sure → Given m base) → (Sure.sure → Given m begun) → (Sure.sure → GivenSlots Sure.asks m xs) → (Sure.sure → GivenWay m w)
        → Uses Sure m (call_way d by gs base begun xs w m)
    call_way_safe by gs base begun xs (by_variable q) m r h i g k =
        both (indexes d by gs (by_variable q)) (index_along_safe Sure d bare most_passed (slot_values xs) begun m r i (λ s. values_of_slots (reach Sure.asks m) xs (g s))) (read_variable_safe Sure d bare q m r k)
    call_way_safe by gs base begun xs (by_call p property) m r h i g k =
        both (indexes d by gs (by_call p property)) (index_along_safe Sure d bare most_passed (slot_values xs) begun m r i (λ s. values_of_slots (reach Sure.asks m) xs (g s)))
        (fine (λ s. (h s, arranged_in (reach Sure.asks m) (parameters_of d p) by xs (bare s p) (g s), tt)))
    call_way_safe by gs base begun xs (by_setter p) m r h i g k =
        both (indexes d by gs (by_setter p)) (index_along_safe Sure d bare most_passed (slot_values xs) begun m r i (λ s. values_of_slots (reach Sure.asks m) xs (g s))) (bad 438 m)

    pub late_called_safe : (name : List ℕ) (by : ByName) (gs : List Bool) (base begun : Val) (xs : List Slot) (m : Memory) → (Sure.sure → Ready Sure.asks m) → (Sure.sure → Given m base) → (Sure.sure → Given m begun) → (Sure.sure → GivenSlots Sure.asks m xs)
        → Uses Sure m (late_called d name by gs base begun xs m)
    late_called_safe name by gs base begun xs m r h i g =
        found_safe reading name gs base m r h (λ w m1 r1 n1 q1. call_way_safe by gs base begun xs w m1 r1 (still n1 base h) (still n1 begun i) (still_slots n1 xs g) q1)

    -- ---- a member is assigned to

    pub let_element_safe : (q : Path) (vs : List Val) (v : Val) (m : Memory) → (Sure.sure → Ready Sure.asks m) → (Sure.sure → GivenPath Sure.asks m q) → (Sure.sure → GivenAll m vs) → (Sure.sure → Given m v) → Uses Sure m (let_element d q vs v m)
    let_element_safe q vs v m r g k h =
        in_place_safe Sure d bare q vs (let_item most_passed vs v) m r g (λ s. (k s, h s)) (λ p m1 r1 n1 q1. let_at_safe Sure d bare p v m1 r1 q1 (still n1 v h))
        (λ w m1 r1 n1 q1. let_along_safe Sure d bare most_passed vs v w m1 r1 (still n1 v h) (still_all n1 vs k) q1)

    let_indexed_safe : (begun : Val) (vs : List Val) (v : Val) (w : Way) (m : Memory) → (Sure.sure → Ready Sure.asks m) → (Sure.sure → Given m begun) → (Sure.sure → GivenAll m vs) → (Sure.sure → Given m v) → (Sure.sure → GivenWay m w) → Uses Sure m (let_indexed d begun vs v w m)
    let_indexed_safe begun vs v (by_variable q) m r i k h g = let_element_safe q vs v m r g k h
    let_indexed_safe begun vs v (by_call p property) m r i k h g = let_along_safe Sure d bare most_passed vs v begun m r h k i
    let_indexed_safe begun vs v (by_setter p) m r i k h g = let_along_safe Sure d bare most_passed vs v begun m r h k i

    let_plain_safe : (by : ByName) (base : Val) (xs : List Slot) (v : Val) (w : Way) (m : Memory) → (Sure.sure → Ready Sure.asks m) → (Sure.sure → Given m base) → (Sure.sure → GivenSlots Sure.asks m xs) → (Sure.sure → Given m v) → (Sure.sure → GivenWay m w)
        → Uses Sure m (let_plain d by base xs v w m)
    let_plain_safe by base xs v (by_variable q) m r i k h g = let_at_safe Sure d bare q v m r g h
    let_plain_safe by base xs v (by_call p property) m r i k h g = fine (λ s. (i s, arranged_in (reach Sure.asks m) (parameters_of d p) by xs (bare s p) (k s), (h s, tt)))
    let_plain_safe by base xs v (by_setter p) m r i k h g =
        put_safe Sure d bare (by_let p base (arranged (without_last (parameters_of d p)) by xs)) v m r h (λ s. (i s, arranged_in (reach Sure.asks m) (without_last (parameters_of d p)) by xs (bare_but_last (parameters_of d p) (bare s p)) (k s)))

    let_way_safe : (by : ByName) (gs : List Bool) (base begun : Val) (xs : List Slot) (v : Val) (w : Way) (m : Memory) → (Sure.sure → Ready Sure.asks m) → (Sure.sure → Given m base) → (Sure.sure → Given m begun) → (Sure.sure → GivenSlots Sure.asks m xs) → (Sure.sure → Given m v) → (Sure.sure → GivenWay m w)
        → Uses Sure m (let_way d by gs base begun xs v w m)
    let_way_safe by gs base begun xs v w m r i j k h g =
        both (indexes d by gs w) (let_indexed_safe begun (slot_values xs) v w m r j (λ s. values_of_slots (reach Sure.asks m) xs (k s)) h g) (let_plain_safe by base xs v w m r i k h g)

    item_let_safe : (o : ℕ) (how : CollectionMember) (vs : List Val) (v : Val) (m : Memory) → (Sure.sure → Ready Sure.asks m) → (Sure.sure → Given m v) → Uses Sure m (item_let d o how vs v m)
    item_let_safe o is_item vs v m r h = written_safe Sure d bare v r h (over_safe Sure (item_found_safe Sure o vs m r))
    item_let_safe o member vs v m r h = bad 438 m

    other_let : (name : List ℕ) (vs : List Val) (base begun v : Val) (m : Memory) → (Sure.sure → Ready Sure.asks m) → (Sure.sure → GivenAll m vs) → (Sure.sure → Given m base) → (Sure.sure → Given m begun) → (Sure.sure → Given m v)
        → Uses Sure m (if is_instance v m then put d (in_member name vs base begun) v m else nothing_more (member_assigned d name vs base begun v m))
    other_let name vs base begun v m r k i j h =
        both (is_instance v m) (put_safe Sure d bare (in_member name vs base begun) v m r h (λ s. (k s, i s, j s))) (nothing_safe Sure (member_assigned_safe Sure d name vs base begun v m r j))

    host_let_safe : (name : List ℕ) (vs : List Val) (base begun v : Val) (m : Memory) → (Sure.sure → Ready Sure.asks m) → (Sure.sure → GivenAll m vs) → (Sure.sure → Given m base) → (Sure.sure → Given m begun) → (Sure.sure → Given m v)
        → Uses Sure m (host_let d name vs base begun v m)
    host_let_safe name vs (object (Heap id)) begun v m r k i j h =
        then_safe r (collection_member_safe Sure id.0 name m) (λ how m1 r1 n1 q1. item_let_safe id.0 how (as_given vs) v m1 r1 (still n1 v h))
    host_let_safe name vs base begun v m r k i j h = other_let name vs base begun v m r k i j h

    pub late_let_safe : (name : List ℕ) (by : ByName) (gs : List Bool) (base begun : Val) (xs : List Slot) (v : Val) (m : Memory) → (Sure.sure → Ready Sure.asks m) → (Sure.sure → Given m base) → (Sure.sure → Given m begun) → (Sure.sure → GivenSlots Sure.asks m xs) → (Sure.sure → Given m v)
        → Uses Sure m (late_let d name by gs base begun xs v m)
    late_let_safe name by gs base begun xs v m r i j k h =
        both (is_instance base m)
        (found_safe assigning name gs base m r i (λ w m1 r1 n1 q1. let_way_safe by gs base begun xs v w m1 r1 (still n1 base i) (still n1 begun j) (still_slots n1 xs k) (still n1 v h) q1))
        (host_let_safe name (host_arguments base name by xs) base begun v m r (λ s. host_arguments_in (reach Sure.asks m) base name by xs (k s)) i j h)

    -- ---- a member is set

    pub element_set_safe : (q : Path) (vs : List Val) (v : Val) (m : Memory) → (Sure.sure → Ready Sure.asks m) → (Sure.sure → GivenPath Sure.asks m q) → (Sure.sure → GivenAll m vs) → (Sure.sure → Given m v) → Uses Sure m (element_set d q vs v m)
    element_set_safe q vs v m r g k h =
        in_place_safe Sure d bare q vs (set_item most_passed vs v) m r g (λ s. (k s, h s)) (λ p m1 r1 n1 q1. nothing_safe Sure (set_at_safe Sure p v m1 r1 q1 (still n1 v h)))
        (λ w m1 r1 n1 q1. set_along_safe Sure d bare most_passed vs v w m1 r1 (still n1 v h) (still_all n1 vs k) q1)

    set_way_safe : (by : ByName) (gs : List Bool) (base begun : Val) (xs : List Slot) (v : Val) (w : Way) (m : Memory) → (Sure.sure → Ready Sure.asks m) → (Sure.sure → Given m base) → (Sure.sure → Given m begun) → (Sure.sure → GivenSlots Sure.asks m xs) → (Sure.sure → Given m v) → (Sure.sure → GivenWay m w)
        → Uses Sure m (set_way d by gs base begun xs v w m)
    set_way_safe by gs base begun xs v (by_variable q) m r i j k h g =
        both (indexes d by gs (by_variable q)) (element_set_safe q (slot_values xs) v m r g (λ s. values_of_slots (reach Sure.asks m) xs (k s)) h) (nothing_safe Sure (set_at_safe Sure q v m r g h))
    set_way_safe by gs base begun xs v (by_setter p) m r i j k h g =
        then_next (set_object_safe Sure (last_type (parameters_of d p)) v m h) (λ w m1 n1 q1.
        fine (λ s. (still n1 base i s, slots_append (reach Sure.asks m1) (arranged (without_last (parameters_of d p)) by xs) (value w ∷ []) (arranged_in (reach Sure.asks m1) (without_last (parameters_of d p)) by xs (bare_but_last (parameters_of d p) (bare s p)) (still_slots n1 xs k s)) (q1 s, tt), tt)))
    set_way_safe by gs base begun xs v (by_call p property) m r i j k h g =
        both (indexes d by gs (by_call p property)) (set_along_safe Sure d bare most_passed (slot_values xs) v begun m r h (λ s. values_of_slots (reach Sure.asks m) xs (k s)) j) (bad 438 m)

    pub late_set_safe : (name : List ℕ) (by : ByName) (gs : List Bool) (base begun : Val) (xs : List Slot) (v : Val) (m : Memory) → (Sure.sure → Ready Sure.asks m) → (Sure.sure → Given m base) → (Sure.sure → Given m begun) → (Sure.sure → GivenSlots Sure.asks m xs) → (Sure.sure → Given m v)
        → Uses Sure m (late_set d name by gs base begun xs v m)
    late_set_safe name by gs base begun xs v m r i j k h =
        both (is_instance base m)
        (found_safe setting name gs base m r i (λ w m1 r1 n1 q1. set_way_safe by gs base begun xs v w m1 r1 (still n1 base i) (still n1 begun j) (still_slots n1 xs k) (still n1 v h) q1))
        (nothing_safe Sure (member_not_set_safe Sure base m))
