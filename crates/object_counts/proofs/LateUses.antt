-- What uses of members raise that are found in the run.
use Rattle.std.proofs.Common.{ℕ, Bool, List, [], Option, Some, None}
use Rattle.std.specs.Prelude.{not, ◌||◌, if◌then◌else◌}
use Rattle.vba_values.specs.declared.object.ObjRef.TheVariants.{Nothing, Heap}
use Rattle.vba_values.specs.Val.{Val, missing, object}
use Rattle.bound_project.specs.Expressions.{ByName}
use Rattle.bound_project.specs.Project.{Declarations, Parameter, Member, is_variable, is_procedure, is_property}
use Rattle.vba_meaning.specs.Paths.{Path}
use Rattle.vba_meaning.specs.Memory.{Slot, Memory}
use Rattle.vba_meaning.specs.Effects.{Effect, on_fine, slot_values}
use Rattle.vba_meaning.specs.Collections.{CollectionMember, is_item, found_or}
use Rattle.vba_meaning.specs.Host.{as_given, member_there, member_assigned}
use Rattle.vba_meaning.specs.ByName.{named_there}
use Rattle.bound_project.specs.Parameters.{parameters_of, without_last, last_type}
use Rattle.vba_meaning.specs.Defaults.{by_let, in_member, let_item, set_item, Next, over_with, is_instance, class_of_value, nothing_more, put, most_passed}
use Rattle.vba_meaning.specs.LateBound.{Use, reading, assigning, setting, Way, by_variable, by_call, by_setter, all_taken, given_twice, any_lacks, arguments_fit, arranged, way_by_name, member_named, variable_named, public_variable, taken_by_way, has_names, indexes, what_is_indexed, way_there, host_there, late_there, how_many, argument_tasks, value_bound, place_copied, call_way, late_called, host_arguments, let_element, element_set, let_indexed, let_plain, let_way, item_let, host_let, late_let, set_way, late_set}
use Rattle.object_counts.specs.Gains.{member_assigned_gains}
use Rattle.object_counts.specs.UseGains.{way_gains, what_is_indexed_gains, way_there_gains, late_there_gains, value_bound_gains, place_copied_gains, call_way_gains, late_called_gains, let_element_gains, element_set_gains, let_indexed_gains, let_plain_gains, let_way_gains, item_let_gains, host_let_gains, late_let_gains, set_way_gains, late_set_gains, put_gains}
use Rattle.object_counts.proofs.Looks.{same}
use Rattle.object_counts.proofs.Chains.{Law, fine, bad, then_still, after_still, either, both, held_law}
use Rattle.object_counts.proofs.Variables.{set_object_law, set_at_law}
use Rattle.object_counts.proofs.Items.{found_or_law, collection_member_law, item_found_holds}
use Rattle.object_counts.proofs.Hosts.{member_there_law, named_there_law, member_assigned_law, member_not_set_law}
use Rattle.object_counts.proofs.Uses.{over_law, nothing_law, read_variable_law, in_place_law, index_along_law, put_law, written_law, let_at_law, let_along_law, set_along_law, tasks_law, use_then_law}

-- what is found by a name, and then
found_law : (d : Declarations) (aim : Use) (name : List ℕ) (gs : List Bool) (v : Val) {h : Way → Memory → List ℕ} {f : Way → Memory → Effect Next} → ((w : Way) (m : Memory) → Law m (h w m) (f w m)) → (m : Memory)
    → Law m (way_gains d aim name gs v h m) (on_fine (found_or 438 (way_by_name d aim name gs v m) m) f)
found_law d aim name gs v k m = after_still (found_or_law 438 (way_by_name d aim name gs v m) m) k

-- ---- a use begins

fit_law : (ps : List Parameter) (by : ByName) (gs : List Bool) (m : Memory) → Law m [] (arguments_fit ps by gs m)
fit_law ps by gs m = both (not (all_taken ps by 0 gs) || given_twice ps by gs by.names) (bad 450 (same m)) (both (any_lacks by gs 0 ps) (bad 449 (same m)) (fine tt (same m)))

what_is_indexed_law : (d : Declarations) (aim : Use) (v : Val) (w : Way) (m : Memory) → Law m (what_is_indexed_gains d aim w m) (what_is_indexed d aim v w m)
what_is_indexed_law d reading v (by_variable q) m = read_variable_law d q m
what_is_indexed_law d assigning v (by_variable q) m = fine _ (same m)
what_is_indexed_law d setting v (by_variable q) m = fine _ (same m)
what_is_indexed_law d reading v (by_call p property) m = fine _ (same m)
what_is_indexed_law d assigning v (by_call p property) m = fine _ (same m)
what_is_indexed_law d setting v (by_call p property) m = fine _ (same m)
what_is_indexed_law d reading v (by_setter p) m = fine _ (same m)
what_is_indexed_law d assigning v (by_setter p) m = fine _ (same m)
what_is_indexed_law d setting v (by_setter p) m = fine _ (same m)

way_there_law : (d : Declarations) (aim : Use) (by : ByName) (gs : List Bool) (v : Val) (w : Way) (m : Memory) → Law m (way_there_gains d aim by gs w m) (way_there d aim by gs v w m)
way_there_law d aim by gs v w m =
    either (indexes d by gs w) (what_is_indexed_law d aim v w m) (then_still (fit_law (taken_by_way d w) by gs m) (λ u m1. fine _ (same m1)))

by_names_law : (d : Declarations) (name : List ℕ) (by : ByName) (gs : List Bool) (v : Val) (m : Memory)
    → Law m [] (if has_names by then over_with (named_there name by (how_many gs) v m) else over_with (member_there d name (how_many gs) v m))
by_names_law d name by gs v m = both (has_names by) (over_law (named_there_law name by (how_many gs) v m)) (over_law (member_there_law d name (how_many gs) v m))

host_there_law : (d : Declarations) (aim : Use) (name : List ℕ) (by : ByName) (gs : List Bool) (v : Val) (m : Memory) → Law m [] (host_there d aim name by gs v m)
host_there_law d setting name by gs v m = nothing_law (member_not_set_law v m)
host_there_law d reading name by gs v m = by_names_law d name by gs v m
host_there_law d assigning name by gs v m = by_names_law d name by gs v m

pub late_there_law : (d : Declarations) (aim : Use) (name : List ℕ) (by : ByName) (gs : List Bool) (v : Val) (m : Memory) → Law m (late_there_gains d aim name by gs v m) (late_there d aim name by gs v m)
late_there_law d aim name by gs v m =
    either (is_instance v m) (found_law d aim name gs v (way_there_law d aim by gs v) m) (host_there_law d aim name by gs v m)

-- ---- the place of a public variable

variable_named_law : (d : Declarations) (v : Val) (x : Option Member) (m : Memory) → Law m [] (variable_named d v x m)
variable_named_law d v None m = bad 438 (same m)
variable_named_law d v (Some (is_variable i makes)) m = fine _ (same m)
variable_named_law d v (Some (is_procedure p)) m = bad 438 (same m)
variable_named_law d v (Some (is_property reads lets sets)) m = bad 438 (same m)

pub public_variable_law : (d : Declarations) (name : List ℕ) (v : Val) (m : Memory) → Law m [] (public_variable d name v m)
public_variable_law d name (object Nothing) m = bad 91 (same m)
public_variable_law d name (object o) m = variable_named_law d (object o) (if is_instance (object o) m then member_named (class_of_value d (object o) m).members name else None) m
public_variable_law d name v m = bad 424 (same m)

-- ---- arguments

pub value_bound_law : (d : Declarations) (aim : Use) (name : List ℕ) (by : ByName) (gs : List Bool) (i : ℕ) (base v : Val) (m : Memory)
    → Law m (value_bound_gains d aim name by gs i base v m) (value_bound d aim name by gs i base v m)
value_bound_law d aim name by gs i base missing m = fine _ (same m)
value_bound_law d aim name by gs i base v m = tasks_law d (argument_tasks d aim name by gs i base m) v m

pub place_copied_law : (d : Declarations) (aim : Use) (name : List ℕ) (by : ByName) (gs : List Bool) (i : ℕ) (base : Val) (q : Path) (m : Memory)
    → Law m (place_copied_gains d aim name by gs i base q m) (place_copied d aim name by gs i base q m)
place_copied_law d aim name by gs i base q m = use_then_law d (argument_tasks d aim name by gs i base m) (read_variable_law d q m)

-- ---- a member is read or called

call_way_law : (d : Declarations) (by : ByName) (gs : List Bool) (base begun : Val) (xs : List Slot) (w : Way) (m : Memory) → Law m (call_way_gains d by gs begun xs w m) (call_way d by gs base begun xs w m)
call_way_law d by gs base begun xs (by_variable q) m = either (indexes d by gs (by_variable q)) (index_along_law d most_passed (slot_values xs) begun m) (read_variable_law d q m)
call_way_law d by gs base begun xs (by_call p property) m = either (indexes d by gs (by_call p property)) (index_along_law d most_passed (slot_values xs) begun m) (fine _ (same m))
call_way_law d by gs base begun xs (by_setter p) m = either (indexes d by gs (by_setter p)) (index_along_law d most_passed (slot_values xs) begun m) (bad 438 (same m))

pub late_called_law : (d : Declarations) (name : List ℕ) (by : ByName) (gs : List Bool) (base begun : Val) (xs : List Slot) (m : Memory)
    → Law m (late_called_gains d name by gs base begun xs m) (late_called d name by gs base begun xs m)
late_called_law d name by gs base begun xs m = found_law d reading name gs base (call_way_law d by gs base begun xs) m

-- ---- a member is assigned to

pub let_element_law : (d : Declarations) (q : Path) (vs : List Val) (v : Val) (m : Memory) → Law m (let_element_gains d q vs v m) (let_element d q vs v m)
let_element_law d q vs v m = in_place_law d q vs (let_item most_passed vs v) (λ p m1. let_at_law d p v m1) (λ w m1. let_along_law d most_passed vs v w m1) m

let_indexed_law : (d : Declarations) (begun : Val) (vs : List Val) (v : Val) (w : Way) (m : Memory) → Law m (let_indexed_gains d begun vs v w m) (let_indexed d begun vs v w m)
let_indexed_law d begun vs v (by_variable q) m = let_element_law d q vs v m
let_indexed_law d begun vs v (by_call p property) m = let_along_law d most_passed vs v begun m
let_indexed_law d begun vs v (by_setter p) m = let_along_law d most_passed vs v begun m

let_plain_law : (d : Declarations) (by : ByName) (base : Val) (xs : List Slot) (v : Val) (w : Way) (m : Memory) → Law m (let_plain_gains d by base xs v w m) (let_plain d by base xs v w m)
let_plain_law d by base xs v (by_variable q) m = let_at_law d q v m
let_plain_law d by base xs v (by_call p property) m = fine _ (same m)
let_plain_law d by base xs v (by_setter p) m = put_law d (by_let p base (arranged (without_last (parameters_of d p)) by xs)) v m

let_way_law : (d : Declarations) (by : ByName) (gs : List Bool) (base begun : Val) (xs : List Slot) (v : Val) (w : Way) (m : Memory) → Law m (let_way_gains d by gs base begun xs v w m) (let_way d by gs base begun xs v w m)
let_way_law d by gs base begun xs v w m = either (indexes d by gs w) (let_indexed_law d begun (slot_values xs) v w m) (let_plain_law d by base xs v w m)

item_let_law : (d : Declarations) (o : ℕ) (how : CollectionMember) (vs : List Val) (v : Val) (m : Memory) → Law m (item_let_gains d o how vs v m) (item_let d o how vs v m)
item_let_law d o is_item vs v m = written_law d v (over_law (held_law (item_found_holds o vs m)))
item_let_law d o member vs v m = bad 438 (same m)

other_let : (d : Declarations) (name : List ℕ) (vs : List Val) (base begun v : Val) (m : Memory)
    → Law m (if is_instance v m then put_gains d (in_member name vs base begun) v m else member_assigned_gains name vs base begun m)
    (if is_instance v m then put d (in_member name vs base begun) v m else nothing_more (member_assigned d name vs base begun v m))
other_let d name vs base begun v m = either (is_instance v m) (put_law d (in_member name vs base begun) v m) (nothing_law (member_assigned_law d name vs base begun v m))

host_let_law : (d : Declarations) (name : List ℕ) (vs : List Val) (base begun v : Val) (m : Memory) → Law m (host_let_gains d name vs base begun v m) (host_let d name vs base begun v m)
host_let_law d name vs (object (Heap id)) begun v m = after_still (collection_member_law id.0 name m) (λ how m1. item_let_law d id.0 how (as_given vs) v m1)
host_let_law d name vs base begun v m = other_let d name vs base begun v m

pub late_let_law : (d : Declarations) (name : List ℕ) (by : ByName) (gs : List Bool) (base begun : Val) (xs : List Slot) (v : Val) (m : Memory)
    → Law m (late_let_gains d name by gs base begun xs v m) (late_let d name by gs base begun xs v m)
late_let_law d name by gs base begun xs v m =
    either (is_instance base m) (found_law d assigning name gs base (let_way_law d by gs base begun xs v) m) (host_let_law d name (host_arguments base name by xs) base begun v m)

-- ---- a member is set

pub element_set_law : (d : Declarations) (q : Path) (vs : List Val) (v : Val) (m : Memory) → Law m (element_set_gains d q vs v m) (element_set d q vs v m)
element_set_law d q vs v m = in_place_law d q vs (set_item most_passed vs v) (λ p m1. nothing_law (set_at_law p v m1)) (λ w m1. set_along_law d most_passed vs v w m1) m

set_way_law : (d : Declarations) (by : ByName) (gs : List Bool) (base begun : Val) (xs : List Slot) (v : Val) (w : Way) (m : Memory) → Law m (set_way_gains d by gs begun xs v w m) (set_way d by gs base begun xs v w m)
set_way_law d by gs base begun xs v (by_variable q) m = either (indexes d by gs (by_variable q)) (element_set_law d q (slot_values xs) v m) (nothing_law (set_at_law q v m))
set_way_law d by gs base begun xs v (by_setter p) m = then_still (set_object_law (last_type (parameters_of d p)) v m) (λ w m1. fine _ (same m1))
set_way_law d by gs base begun xs v (by_call p property) m = either (indexes d by gs (by_call p property)) (set_along_law d most_passed (slot_values xs) v begun m) (bad 438 (same m))

pub late_set_law : (d : Declarations) (name : List ℕ) (by : ByName) (gs : List Bool) (base begun : Val) (xs : List Slot) (v : Val) (m : Memory)
    → Law m (late_set_gains d name by gs base begun xs v m) (late_set d name by gs base begun xs v m)
late_set_law d name by gs base begun xs v m =
    either (is_instance base m) (found_law d setting name gs base (set_way_law d by gs base begun xs v) m) (nothing_law (member_not_set_law base m))
