-- What uses of objects raise: members that are read, values that are indexed or written along default members, members
-- that are found in the run.
use Rattle.std.specs.Prelude.{ℕ, zero, suc, ◌&&◌, List, [], ◌∷◌, ◌++◌, map, Bool, Option, Some, None, if◌then◌else◌}
use Rattle.vba_values.specs.declared.object.ObjRef.TheVariants.{Heap}
use Rattle.vba_values.specs.Val.{Val, missing, object}
use Rattle.bound_project.specs.Expressions.{ByName}
use Rattle.bound_project.specs.Project.{Declarations, Member, is_variable, is_procedure, is_property, procedure_at}
use Rattle.vba_meaning.specs.Paths.{Path}
use Rattle.vba_meaning.specs.Memory.{Slot, Memory}
use Rattle.vba_meaning.specs.Effects.{Effect, read_path, slot_values, slot_left_out}
use Rattle.vba_meaning.specs.Objects.{made_for, initialize_of, stored_made}
use Rattle.vba_meaning.specs.Collections.{CollectionMember, is_item, found_or, collection_member, item_found}
use Rattle.vba_meaning.specs.Host.{is_counted, as_given, item_by}
use Rattle.bound_project.specs.Parameters.{parameters_of, any_must, without_last, has_parameters}
use Rattle.vba_meaning.specs.Defaults.{Spot, in_variable, by_let, in_range, in_member, Task, as_operand, no_object, give_way, walked, fit_to, index_by, write, let_item, set_item, put_in, read_made, Next, gives, then_call, over_with, is_instance, class_of_value, variable_of, is_object_type, is_sub_kind, has_default_alone, read_variable, read_member, reader_of, let_setter, setter_of, slots_from, has_array, element_by, operand_of, takes_itself, takes_value, task_next, most_passed}
use Rattle.vba_meaning.specs.LateBound.{Use, reading, assigning, setting, Way, by_variable, by_call, by_setter, arranged, way_by_name, indexes, argument_tasks, host_arguments}
use Rattle.object_counts.specs.Gains.{gains_behind, given_gains, assigned_gains, made_for_gains, stored_made_gains, member_assigned_gains, set_at_gains}

-- behind a use that is over
abbrev pub goes_gains : (Val → Memory → List ℕ) → Next → Memory → List ℕ
goes_gains f (gives v) m = f v m
goes_gains f (then_call p self xs ts) m = []

abbrev pub after_gains : List ℕ → Effect Next → (Val → Memory → List ℕ) → List ℕ
after_gains gs e f = gs ++ gains_behind e (goes_gains f)

-- ---- a member is read

abbrev pub read_made_gains : Path → Val → Option ℕ → Memory → List ℕ
read_made_gains q v None m = stored_made_gains q v m ++ gains_behind (stored_made q v m) (λ u m1. given_gains (read_path q m1))
read_made_gains q v (Some p) m = []

abbrev pub read_variable_gains : Declarations → Path → Memory → List ℕ
read_variable_gains d q m = made_for_gains d q m ++ gains_behind (made_for d q m) (λ v m1. read_made_gains q v (initialize_of d q v) m1)

abbrev pub read_member_gains : Declarations → Val → Member → Memory → List ℕ
read_member_gains d v (is_variable i makes) m = read_variable_gains d (variable_of d v i makes m) m
read_member_gains d v (is_procedure p) m = []
read_member_gains d v (is_property reads lets sets) m = []

abbrev pub read_default_gains : Declarations → Val → Option Member → Memory → List ℕ
read_default_gains d v None m = []
read_default_gains d v (Some x) m = read_member_gains d v x m

-- ---- operands

abbrev pub counted_operand_gains : Declarations → Val → Memory → List ℕ
counted_operand_gains d v m = if is_instance v m then read_default_gains d v (class_of_value d v m).default m else []

abbrev pub operand_gains : Declarations → Val → Memory → List ℕ
operand_gains d v m = if is_counted v then counted_operand_gains d v m else []

abbrev pub counted_if_any_gains : Declarations → Val → Memory → List ℕ
counted_if_any_gains d v m = if is_instance v m && has_default_alone d (class_of_value d v m).default then read_default_gains d v (class_of_value d v m).default m else []

-- ---- arguments that index

abbrev pub index_default_gains : Declarations → Member → (pass : Member → Memory → List ℕ) → Memory → List ℕ
index_default_gains d x pass m = at (reader_of x)
  where
    at : Option ℕ → List ℕ
    at None = pass x m
    at (Some p) = if has_parameters (parameters_of d p) then [] else pass x m

abbrev pub index_member_gains : Declarations → Option Member → (pass : Member → Memory → List ℕ) → Memory → List ℕ
index_member_gains d None pass m = []
index_member_gains d (Some x) pass m = index_default_gains d x pass m

abbrev pub index_once_gains : Declarations → Val → List Val → (pass : Member → Memory → List ℕ) → Memory → List ℕ
index_once_gains d w vs pass m = if is_instance w m then index_member_gains d (class_of_value d w m).default pass m else given_gains (item_by w vs m)

abbrev pub index_along_gains : Declarations → (left : ℕ) → List Val → Val → Memory → List ℕ
index_along_gains d zero vs w m = index_once_gains d w vs (λ x m1. []) m
index_along_gains d (suc k) vs w m = index_once_gains d w vs (λ x m1. after_gains (read_member_gains d w x m1) (read_member d w x m1) (λ u m2. index_along_gains d k vs u m2)) m

-- what is at a place, unless that is an array, is read and indexed
abbrev pub item_along_gains : Declarations → Path → List Val → Memory → List ℕ
item_along_gains d q vs m = after_gains (read_variable_gains d q m) (read_variable d q m) (λ w m1. index_along_gains d most_passed vs w m1)

-- arguments lead from a place, and from a default member that takes none
abbrev pub in_place_gains : Declarations → Path → List Val → (store : Path → Memory → List ℕ) → (go : Val → Memory → List ℕ) → Memory → List ℕ
in_place_gains d q vs store go m = if has_array q m then gains_behind (element_by q vs m) store else after_gains (read_variable_gains d q m) (read_variable d q m) go

abbrev pub leads_gains : Declarations → (self : Val) → List Val → (store : Path → Memory → List ℕ) → (go : Val → Memory → List ℕ) → Member → Memory → List ℕ
leads_gains d self vs store go (is_variable i makes) m = in_place_gains d (variable_of d self i makes m) vs store go m
leads_gains d self vs store go x m = after_gains (read_member_gains d self x m) (read_member d self x m) go

-- ---- a value is put where it goes, and a default member is written

abbrev pub put_value_gains : Spot → Val → Memory → List ℕ
put_value_gains (in_variable q) v m = assigned_gains q v m
put_value_gains (by_let p self xs) v m = []
put_value_gains (in_range w) v m = []
put_value_gains (in_member name vs base begun) v m = member_assigned_gains name vs base begun m

abbrev pub put_gains : Declarations → Spot → Val → Memory → List ℕ
put_gains d spot v m = if takes_itself d spot then put_value_gains spot v m else after_gains (operand_gains d v m) (operand_of d v m) (λ w m1. put_value_gains spot w m1)

abbrev pub write_host_gains : Declarations → Val → (target : Val) → Memory → List ℕ
write_host_gains d v w m = if takes_value w then put_gains d (in_range w) v m else []

abbrev pub write_variable_gains : Declarations → Val → Path → Member → (pass : Member → Memory → List ℕ) → Memory → List ℕ
write_variable_gains d v q x pass m = if is_object_type q.of then pass x m else put_gains d (in_variable q) v m

abbrev pub write_let_gains : Declarations → Val → (self : Val) → (procedure : ℕ) → Memory → List ℕ
write_let_gains d v self p m = if any_must (without_last (parameters_of d p)) then [] else put_gains d (by_let p self (map slot_left_out (without_last (parameters_of d p)))) v m

abbrev pub write_default_gains : Declarations → Val → (target : Val) → Member → (pass : Member → Memory → List ℕ) → Memory → List ℕ
write_default_gains d v w (is_variable i makes) pass m = write_variable_gains d v (variable_of d w i makes m) (is_variable i makes) pass m
write_default_gains d v w (is_procedure p) pass m = if is_sub_kind (procedure_at d p).kind then [] else pass (is_procedure p) m
write_default_gains d v w (is_property reads (Some p) sets) pass m = write_let_gains d v w p m
write_default_gains d v w (is_property reads None sets) pass m = pass (is_property reads None sets) m

abbrev pub write_member_gains : Declarations → Val → (target : Val) → Option Member → (pass : Member → Memory → List ℕ) → Memory → List ℕ
write_member_gains d v w None pass m = []
write_member_gains d v w (Some x) pass m = write_default_gains d v w x pass m

abbrev pub write_once_gains : Declarations → Val → (target : Val) → (pass : Member → Memory → List ℕ) → Memory → List ℕ
write_once_gains d v w pass m = if is_instance w m then write_member_gains d v w (class_of_value d w m).default pass m else write_host_gains d v w m

abbrev pub write_along_gains : Declarations → (left : ℕ) → Val → (target : Val) → Memory → List ℕ
write_along_gains d zero v w m = write_once_gains d v w (λ x m1. []) m
write_along_gains d (suc k) v w m = write_once_gains d v w (λ x m1. after_gains (read_member_gains d w x m1) (read_member d w x m1) (λ u m2. write_along_gains d k v u m2)) m

-- ---- what arguments lead to takes a value

-- the default member of what a use gives is written
abbrev pub written_gains : Declarations → Val → List ℕ → Effect Next → List ℕ
written_gains d v gs e = after_gains gs e (λ w m. write_along_gains d most_passed v w m)

abbrev pub let_at_gains : Declarations → Path → Val → Memory → List ℕ
let_at_gains d q v m = if is_object_type q.of then written_gains d v (read_variable_gains d q m) (read_variable d q m) else put_gains d (in_variable q) v m

abbrev pub let_by_reader_gains : Declarations → Member → Option ℕ → (pass : Member → Memory → List ℕ) → Memory → List ℕ
let_by_reader_gains d x None pass m = pass x m
let_by_reader_gains d x (Some p) pass m = if has_parameters (parameters_of d p) then [] else pass x m

abbrev pub let_default_gains : Declarations → Val → List Val → (self : Val) → Member → Option ℕ → (pass : Member → Memory → List ℕ) → Memory → List ℕ
let_default_gains d v vs self x None pass m = let_by_reader_gains d x (reader_of x) pass m
let_default_gains d v vs self x (Some p) pass m =
    if has_parameters (without_last (parameters_of d p)) then gains_behind (slots_from (without_last (parameters_of d p)) vs m) (λ xs m1. put_gains d (by_let p self xs) v m1)
    else let_by_reader_gains d x (reader_of x) pass m

abbrev pub let_member_gains : Declarations → Val → List Val → (self : Val) → Option Member → (pass : Member → Memory → List ℕ) → Memory → List ℕ
let_member_gains d v vs self None pass m = []
let_member_gains d v vs self (Some x) pass m = let_default_gains d v vs self x (let_setter x) pass m

abbrev pub let_item_gains : Declarations → Val → List Val → (target : Val) → Memory → List ℕ
let_item_gains d v vs (object o) m = after_gains (given_gains (item_by (object o) vs m)) (over_with (item_by (object o) vs m)) (λ w m1. write_along_gains d most_passed v w m1)
let_item_gains d v vs w m = given_gains (item_by w vs m) ++ gains_behind (item_by w vs m) (λ u m1. operand_gains d v m1)

abbrev pub let_once_gains : Declarations → Val → List Val → (target : Val) → (pass : Member → Memory → List ℕ) → Memory → List ℕ
let_once_gains d v vs w pass m = if is_instance w m then let_member_gains d v vs w (class_of_value d w m).default pass m else let_item_gains d v vs w m

abbrev pub let_along_gains : Declarations → (left : ℕ) → List Val → Val → (target : Val) → Memory → List ℕ
let_along_gains d zero vs v w m = let_once_gains d v vs w (λ x m1. []) m
let_along_gains d (suc k) vs v w m =
    let_once_gains d v vs w (λ x m1. leads_gains d w vs (λ p m2. let_at_gains d p v m2) (λ u m2. let_along_gains d k vs v u m2) x m1) m

-- ---- what arguments lead to is set

abbrev pub set_by_reader_gains : Declarations → Member → Option ℕ → (pass : Member → Memory → List ℕ) → Memory → List ℕ
set_by_reader_gains d x None pass m = pass x m
set_by_reader_gains d x (Some p) pass m = if has_parameters (parameters_of d p) then [] else pass x m

abbrev pub set_default_gains : Declarations → Member → Option ℕ → (pass : Member → Memory → List ℕ) → Memory → List ℕ
set_default_gains d x None pass m = set_by_reader_gains d x (reader_of x) pass m
set_default_gains d x (Some p) pass m = if has_parameters (without_last (parameters_of d p)) then [] else set_by_reader_gains d x (reader_of x) pass m

abbrev pub set_by_member_gains : Declarations → Option Member → (pass : Member → Memory → List ℕ) → Memory → List ℕ
set_by_member_gains d None pass m = []
set_by_member_gains d (Some x) pass m = set_default_gains d x (setter_of x) pass m

abbrev pub set_once_gains : Declarations → List Val → (target : Val) → (pass : Member → Memory → List ℕ) → Memory → List ℕ
set_once_gains d vs w pass m = if is_instance w m then set_by_member_gains d (class_of_value d w m).default pass m else given_gains (item_by w vs m)

abbrev pub set_along_gains : Declarations → (left : ℕ) → List Val → Val → (target : Val) → Memory → List ℕ
set_along_gains d zero vs v w m = set_once_gains d vs w (λ x m1. []) m
set_along_gains d (suc k) vs v w m =
    set_once_gains d vs w (λ x m1. leads_gains d w vs (λ p m2. set_at_gains p v m2) (λ u m2. set_along_gains d k vs v u m2) x m1) m

-- ---- For Each over an object of a class

abbrev pub enumerator_gains : Declarations → Val → Memory → List ℕ
enumerator_gains d v m = if is_instance v m then read_default_gains d v (class_of_value d v m).enumerator m else []

-- ---- tasks

abbrev pub task_gains : Declarations → Task → Val → Memory → List ℕ
task_gains d as_operand v m = operand_gains d v m
task_gains d no_object v m = []
task_gains d give_way v m = if is_instance v m then operand_gains d v m else []
task_gains d walked v m = []
task_gains d (fit_to of) v m = []
task_gains d (index_by k vs) v m = index_along_gains d k vs v m
task_gains d (write k w) v m = write_along_gains d k w v m
task_gains d (let_item k vs w) v m = let_along_gains d k vs w v m
task_gains d (set_item k vs w) v m = set_along_gains d k vs w v m
task_gains d (put_in spot) v m = put_value_gains spot v m
task_gains d (read_made q w) v m = read_made_gains q w None m

abbrev pub tasks_gains : Declarations → List Task → Val → Memory → List ℕ
tasks_gains d [] v m = []
tasks_gains d (t ∷ ts) v m = after_gains (task_gains d t v m) (task_next d t v m) (λ w m1. tasks_gains d ts w m1)

-- ---- members that are found in the run

-- what is found by a name
abbrev pub way_gains : Declarations → Use → (name : List ℕ) → List Bool → Val → (Way → Memory → List ℕ) → Memory → List ℕ
way_gains d aim name gs v f m = gains_behind (found_or 438 (way_by_name d aim name gs v m) m) f

abbrev pub what_is_indexed_gains : Declarations → Use → Way → Memory → List ℕ
what_is_indexed_gains d reading (by_variable q) m = read_variable_gains d q m
what_is_indexed_gains d aim w m = []

abbrev pub way_there_gains : Declarations → Use → ByName → List Bool → Way → Memory → List ℕ
way_there_gains d aim by gs w m = if indexes d by gs w then what_is_indexed_gains d aim w m else []

abbrev pub late_there_gains : Declarations → Use → (name : List ℕ) → ByName → List Bool → Val → Memory → List ℕ
late_there_gains d aim name by gs v m = if is_instance v m then way_gains d aim name gs v (way_there_gains d aim by gs) m else []

abbrev pub value_bound_gains : Declarations → Use → (name : List ℕ) → ByName → List Bool → (argument : ℕ) → (base : Val) → Val → Memory → List ℕ
value_bound_gains d aim name by gs i base missing m = []
value_bound_gains d aim name by gs i base v m = tasks_gains d (argument_tasks d aim name by gs i base m) v m

abbrev pub place_copied_gains : Declarations → Use → (name : List ℕ) → ByName → List Bool → (argument : ℕ) → (base : Val) → Path → Memory → List ℕ
place_copied_gains d aim name by gs i base q m = after_gains (read_variable_gains d q m) (read_variable d q m) (λ w m1. tasks_gains d (argument_tasks d aim name by gs i base m) w m1)

abbrev pub call_way_gains : Declarations → ByName → List Bool → (begun : Val) → List Slot → Way → Memory → List ℕ
call_way_gains d by gs begun xs w m = if indexes d by gs w then index_along_gains d most_passed (slot_values xs) begun m else at w
  where
    at : Way → List ℕ
    at (by_variable q) = read_variable_gains d q m
    at (by_call p property) = []
    at (by_setter p) = []

abbrev pub late_called_gains : Declarations → (name : List ℕ) → ByName → List Bool → (base begun : Val) → List Slot → Memory → List ℕ
late_called_gains d name by gs base begun xs m = way_gains d reading name gs base (call_way_gains d by gs begun xs) m

abbrev pub let_element_gains : Declarations → Path → List Val → Val → Memory → List ℕ
let_element_gains d q vs v m = in_place_gains d q vs (λ p m1. let_at_gains d p v m1) (λ w m1. let_along_gains d most_passed vs v w m1) m

abbrev pub let_indexed_gains : Declarations → (begun : Val) → List Val → Val → Way → Memory → List ℕ
let_indexed_gains d begun vs v (by_variable q) m = let_element_gains d q vs v m
let_indexed_gains d begun vs v w m = let_along_gains d most_passed vs v begun m

abbrev pub let_plain_gains : Declarations → ByName → (base : Val) → List Slot → Val → Way → Memory → List ℕ
let_plain_gains d by base xs v (by_variable q) m = let_at_gains d q v m
let_plain_gains d by base xs v (by_call p property) m = []
let_plain_gains d by base xs v (by_setter p) m = put_gains d (by_let p base (arranged (without_last (parameters_of d p)) by xs)) v m

abbrev pub let_way_gains : Declarations → ByName → List Bool → (base begun : Val) → List Slot → Val → Way → Memory → List ℕ
let_way_gains d by gs base begun xs v w m = if indexes d by gs w then let_indexed_gains d begun (slot_values xs) v w m else let_plain_gains d by base xs v w m

abbrev pub item_let_gains : Declarations → (number : ℕ) → CollectionMember → List Val → Val → Memory → List ℕ
item_let_gains d o is_item vs v m = written_gains d v (given_gains (item_found o vs m)) (over_with (item_found o vs m))
item_let_gains d o member vs v m = []

abbrev pub host_let_gains : Declarations → (name : List ℕ) → List Val → (base begun : Val) → Val → Memory → List ℕ
host_let_gains d name vs (object (Heap id)) begun v m = gains_behind (collection_member id.0 name m) (λ how m1. item_let_gains d id.0 how (as_given vs) v m1)
host_let_gains d name vs base begun v m = if is_instance v m then put_gains d (in_member name vs base begun) v m else member_assigned_gains name vs base begun m

abbrev pub late_let_gains : Declarations → (name : List ℕ) → ByName → List Bool → (base begun : Val) → List Slot → Val → Memory → List ℕ
late_let_gains d name by gs base begun xs v m =
    if is_instance base m then way_gains d assigning name gs base (let_way_gains d by gs base begun xs v) m else host_let_gains d name (host_arguments base name by xs) base begun v m

abbrev pub element_set_gains : Declarations → Path → List Val → Val → Memory → List ℕ
element_set_gains d q vs v m = in_place_gains d q vs (λ p m1. set_at_gains p v m1) (λ w m1. set_along_gains d most_passed vs v w m1) m

abbrev pub set_way_gains : Declarations → ByName → List Bool → (begun : Val) → List Slot → Val → Way → Memory → List ℕ
set_way_gains d by gs begun xs v (by_variable q) m = if indexes d by gs (by_variable q) then element_set_gains d q (slot_values xs) v m else set_at_gains q v m
set_way_gains d by gs begun xs v (by_setter p) m = []
set_way_gains d by gs begun xs v (by_call p property) m = if indexes d by gs (by_call p property) then set_along_gains d most_passed (slot_values xs) v begun m else []

abbrev pub late_set_gains : Declarations → (name : List ℕ) → ByName → List Bool → (base begun : Val) → List Slot → Val → Memory → List ℕ
late_set_gains d name by gs base begun xs v m = if is_instance base m then way_gains d setting name gs base (set_way_gains d by gs begun xs v) m else []
