-- Members that are found in the run, by the class of the object that is there ([MS-VBAL] 5.6.12, 5.3.1.11).
use Rattle.std.specs.Prelude.{ℕ, zero, suc, ◌+◌, ◌-◌, nat_lt, ◌&&◌, ◌||◌, List, [], ◌∷◌, ◌++◌, length, codes, Bool, true, false, not, if◌then◌else◌, bytes_eq, Option, Some, None, is_some, slice_index_or, take, drop}
use Rattle.std.specs.List.{list_any}
use Rattle.vba_values.specs.declared.object.ObjRef.TheVariants.{Nothing, Heap}
use Rattle.vba_values.specs.Val.{Val, empty, missing, object}
use Rattle.bound_project.specs.Expressions.{ByName, Expr, expr, not_given, Given, none_given, place_given, expr_given}
use Rattle.bound_project.specs.Project.{Declarations, Parameter, Member, is_variable, is_procedure, is_property, Named, procedure_at}
use Rattle.vba_meaning.specs.Paths.{Path}
use Rattle.vba_meaning.specs.Memory.{Slot, value, Memory}
use Rattle.vba_meaning.specs.Effects.{Effect, Fine, Bad-at, on_fine, done, set_object, slot_values, packed, slot_left_out}
use Rattle.vba_values.specs.Coerce.{is_same_type}
use Rattle.vba_meaning.specs.Objects.{set_at}
use Rattle.vba_meaning.specs.Collections.{CollectionMember, is_item, found_or, collection_member, item_found}
use Rattle.vba_meaning.specs.Host.{as_given, member_there, member_assigned, member_not_set}
use Rattle.vba_meaning.specs.ByName.{named_there, in_parameter_order}
use Rattle.bound_project.specs.Parameters.{parameters_of, must_be_given, without_last, last_type, has_parameters}
use Rattle.vba_meaning.specs.Defaults.{by_let, in_member, Task, as_operand, fit_to, write, let_item, set_item, give_way, Next, gives, then_call, over_with, after_use, is_instance, is_variable_place, class_of_value, variable_of, can_be_object, is_sub_kind, read_variable, index_along, in_place, nothing_more, put, let_at, write_along, let_along, set_along, tasks_next, use_then, most_passed}

-- what is done with a member: it is read or called, assigned to, or set
pub data Use : Type 0 where
  reading : Use
  assigning : Use
  setting : Use

-- what does it: a variable; a procedure or Get that is called, and then what it gives is used; a Let or Set, whose last
-- parameter takes the value
pub data Way : Type 0 where
  by_variable : Path → Way
  by_call : (procedure : ℕ) → (property : Bool) → Way
  by_setter : (procedure : ℕ) → Way

-- ---- arguments

-- whether each argument is given
abbrev pub is_given_expr : Expr → Bool
is_given_expr (expr not_given place of operand) = false
is_given_expr e = true

abbrev pub which_given : Given → List Bool
which_given none_given = []
which_given (place_given x given) = true ∷ which_given given
which_given (expr_given e given) = is_given_expr e ∷ which_given given

abbrev pub how_many : List Bool → ℕ
how_many [] = 0
how_many (g ∷ gs) = (if g then 1 else 0) + how_many gs

-- the parameter in a place: behind the last one a ParamArray takes what comes
abbrev pub parameter_at : List Parameter → (place : ℕ) → Option Parameter
parameter_at [] i = None
parameter_at (q ∷ qs) zero = Some q
parameter_at (q ∷ qs) (suc i) = if q.many then Some q else parameter_at qs i

-- the parameter with a name, and its number from one on: a ParamArray has none
abbrev pub numbered_by : (first : ℕ) → List Parameter → (name : List ℕ) → Option (ℕ × Parameter)
numbered_by j [] name = None
numbered_by j (q ∷ qs) name = if bytes_eq q.name.fold name && not q.many then Some (j, q) else numbered_by (suc j) qs name

abbrev pub second : Option (ℕ × Parameter) → Option Parameter
second None = None
second (Some x) = Some x.1

-- the parameter of an argument
abbrev pub parameter_of : List Parameter → ByName → (argument : ℕ) → Option Parameter
parameter_of ps by i = if nat_lt i by.before then parameter_at ps i else second (numbered_by 0 ps (slice_index_or by.names (i - by.before) []))

-- each argument that is given has a parameter, and no parameter has two of them
abbrev pub all_taken : List Parameter → ByName → (argument : ℕ) → List Bool → Bool
all_taken ps by i [] = true
all_taken ps by i (g ∷ gs) = (not g || is_some (parameter_of ps by i)) && all_taken ps by (suc i) gs

abbrev pub given_in_place : ByName → List Bool → Option (ℕ × Parameter) → Bool
given_in_place by gs None = false
given_in_place by gs (Some x) = nat_lt x.0 by.before && slice_index_or gs x.0 false

abbrev pub given_twice : List Parameter → ByName → List Bool → (names : List (List ℕ)) → Bool
given_twice ps by gs [] = false
given_twice ps by gs (name ∷ names) = given_in_place by gs (numbered_by 0 ps name) || list_any (λ other. bytes_eq other name) names || given_twice ps by gs names

-- the number of a parameter's argument
abbrev pub place_of_name : (first : ℕ) → (names : List (List ℕ)) → (name : List ℕ) → Option ℕ
place_of_name i [] name = None
place_of_name i (x ∷ xs) name = if bytes_eq x name then Some i else place_of_name (suc i) xs name

abbrev pub argument_of : ByName → (parameter : ℕ) → Parameter → Option ℕ
argument_of by j q = if nat_lt j by.before then Some j else place_of_name by.before by.names q.name.fold

abbrev pub is_given_at : List Bool → Option ℕ → Bool
is_given_at gs None = false
is_given_at gs (Some i) = slice_index_or gs i false

-- from a parameter on, one lacks an argument that must be given
abbrev pub any_lacks : ByName → List Bool → (parameter : ℕ) → List Parameter → Bool
any_lacks by gs j [] = false
any_lacks by gs j (q ∷ qs) = (must_be_given q && not (is_given_at gs (argument_of by j q))) || any_lacks by gs (suc j) qs

-- 450 comes before 449
abbrev pub arguments_fit : List Parameter → ByName → List Bool → Memory → Effect (Unit {0})
arguments_fit ps by gs m =
    if not (all_taken ps by 0 gs) || given_twice ps by gs by.names then Bad-at 450 m
    else if any_lacks by gs 0 ps then Bad-at 449 m
    else done m

-- what a parameter has: its argument, all further ones, or what it has where none is given
abbrev pub slot_or_left : Parameter → Slot → Slot
slot_or_left q (value missing) = slot_left_out q
slot_or_left q x = x

abbrev pub slot_of : Parameter → List Slot → Option ℕ → Slot
slot_of q xs None = slot_left_out q
slot_of q xs (Some i) = slot_or_left q (slice_index_or xs i (value missing))

abbrev pub arranged_from : ByName → (parameter : ℕ) → List Parameter → List Slot → List Slot
arranged_from by j [] xs = []
arranged_from by j (q ∷ qs) xs = (if q.many then value (packed (drop j (take by.before xs))) else slot_of q xs (argument_of by j q)) ∷ arranged_from by (suc j) qs xs

abbrev pub arranged : List Parameter → ByName → List Slot → List Slot
arranged ps by xs = arranged_from by 0 ps xs

-- ---- the member of a class

abbrev pub member_named : List Named → (name : List ℕ) → Option Member
member_named [] name = None
member_named (x ∷ xs) name = if bytes_eq x.fold name then Some x.member else member_named xs name

-- the place of a public variable: no other member has one
abbrev pub variable_named : Declarations → Val → Option Member → Memory → Effect Path
variable_named d v (Some (is_variable i makes)) m = Fine (variable_of d v i makes m) m
variable_named d v x m = Bad-at 438 m

abbrev pub public_variable : Declarations → (name : List ℕ) → Val → Memory → Effect Path
public_variable d name (object Nothing) m = Bad-at 91 m
public_variable d name (object o) m = variable_named d (object o) (if is_instance (object o) m then member_named (class_of_value d (object o) m).members name else None) m
public_variable d name v m = Bad-at 424 m

-- a Get that may give an object is called for an assignment where no Let takes it
abbrev pub get_for_object : Declarations → Option ℕ → Option Way
get_for_object d None = None
get_for_object d (Some p) = if can_be_object (procedure_at d p).result.of then Some (by_call p true) else None

abbrev pub assigned_way : Declarations → (given : ℕ) → Val → Member → Memory → Option Way
assigned_way d k v (is_variable i makes) m = Some (by_variable (variable_of d v i makes m))
assigned_way d k v (is_procedure p) m = if is_sub_kind (procedure_at d p).kind then None else Some (by_call p false)
assigned_way d k v (is_property reads (Some p) sets) m = if nat_lt 0 k && not (has_parameters (without_last (parameters_of d p))) then get_for_object d reads else Some (by_setter p)
assigned_way d k v (is_property reads None sets) m = get_for_object d reads

-- a property is set by its Set; arguments index what a Get gives that takes none
abbrev pub get_alone : Declarations → (given : ℕ) → Option ℕ → Option Way
get_alone d k None = None
get_alone d k (Some p) = if nat_lt 0 k && not (has_parameters (parameters_of d p)) then get_for_object d (Some p) else None

abbrev pub set_by : Declarations → (given : ℕ) → (reads sets : Option ℕ) → Option Way
set_by d k reads (Some p) = if nat_lt 0 k && not (has_parameters (without_last (parameters_of d p))) then get_alone d k reads else Some (by_setter p)
set_by d k reads None = get_alone d k reads

abbrev pub way_of : Declarations → Use → (given : ℕ) → Val → Member → Memory → Option Way
way_of d reading k v (is_variable i makes) m = Some (by_variable (variable_of d v i makes m))
way_of d reading k v (is_procedure p) m = Some (by_call p false)
way_of d reading k v (is_property (Some p) lets sets) m = Some (by_call p true)
way_of d reading k v (is_property None lets sets) m = None
way_of d assigning k v x m = assigned_way d k v x m
way_of d setting k v (is_variable i makes) m = Some (by_variable (variable_of d v i makes m))
way_of d setting k v (is_procedure p) m = None
way_of d setting k v (is_property reads lets sets) m = set_by d k reads sets

abbrev pub found_way : Declarations → Use → (given : ℕ) → Val → Option Member → Memory → Option Way
found_way d aim k v None m = None
found_way d aim k v (Some x) m = way_of d aim k v x m

-- by the name, for so many arguments: none where the class has no such member
abbrev pub way_by_name : Declarations → Use → (name : List ℕ) → List Bool → Val → Memory → Option Way
way_by_name d aim name gs v m = found_way d aim (how_many gs) v (member_named (class_of_value d v m).members name) m

-- the parameters that arguments go to
abbrev pub taken_by_way : Declarations → Way → List Parameter
taken_by_way d (by_variable q) = []
taken_by_way d (by_call p property) = parameters_of d p
taken_by_way d (by_setter p) = without_last (parameters_of d p)

-- behind a variable or a property without parameters arguments index what it has
abbrev pub can_index_what : Declarations → Way → Bool
can_index_what d (by_variable q) = true
can_index_what d (by_call p property) = property && not (has_parameters (parameters_of d p))
can_index_what d (by_setter p) = false

abbrev pub has_names : ByName → Bool
has_names by = nat_lt 0 (length by.names)

abbrev pub indexes : Declarations → ByName → List Bool → Way → Bool
indexes d by gs w = nat_lt 0 (how_many gs) && not (has_names by) && can_index_what d w

-- ---- a use begins: before any argument is evaluated, and what the arguments index is read

abbrev pub what_is_indexed : Declarations → Use → Val → Way → Memory → Effect Next
what_is_indexed d reading v (by_variable q) m = read_variable d q m
what_is_indexed d aim v (by_call p property) m = Fine (then_call p v [] []) m
what_is_indexed d aim v w m = Fine (gives empty) m

abbrev pub way_there : Declarations → Use → ByName → List Bool → Val → Way → Memory → Effect Next
way_there d aim by gs v w m =
    if indexes d by gs w then what_is_indexed d aim v w m
    else on_fine (arguments_fit (taken_by_way d w) by gs m) (λ u m1. Fine (gives empty) m1)

abbrev pub member_there_of : Declarations → Use → (name : List ℕ) → ByName → List Bool → Val → Memory → Effect Next
member_there_of d aim name by gs v m = on_fine (found_or 438 (way_by_name d aim name gs v m) m) (λ w m1. way_there d aim by gs v w m1)

abbrev pub host_there : Declarations → Use → (name : List ℕ) → ByName → List Bool → Val → Memory → Effect Next
host_there d setting name by gs v m = nothing_more (member_not_set v m)
host_there d aim name by gs v m = if has_names by then over_with (named_there name by (how_many gs) v m) else over_with (member_there d name (how_many gs) v m)

abbrev pub late_there : Declarations → Use → (name : List ℕ) → ByName → List Bool → Val → Memory → Effect Next
late_there d aim name by gs v m = if is_instance v m then member_there_of d aim name by gs v m else host_there d aim name by gs v m

-- ---- an argument, as its parameter takes it

abbrev pub parameter_by_way : Declarations → ByName → List Bool → (argument : ℕ) → Option Way → Option Parameter
parameter_by_way d by gs i None = None
parameter_by_way d by gs i (Some w) = if indexes d by gs w then None else parameter_of (taken_by_way d w) by i

abbrev pub parameter_for : Declarations → Use → (name : List ℕ) → ByName → List Bool → (argument : ℕ) → (base : Val) → Memory → Option Parameter
parameter_for d aim name by gs i base m = parameter_by_way d by gs i (way_by_name d aim name gs base m)

-- a value becomes one of the parameter's type: an object stays where that may be one
abbrev pub tasks_for : Option Parameter → List Task
tasks_for None = []
tasks_for (Some q) = if q.many then [] else if can_be_object q.of then fit_to q.of ∷ [] else as_operand ∷ fit_to q.of ∷ []

-- what the host's members and those of a Collection are given is no object of a class, but for the item of Add
abbrev pub keeps_object : (name : List ℕ) → ByName → (argument : ℕ) → Bool
keeps_object name by i =
    bytes_eq name (codes "add") && (if nat_lt i by.before then nat_lt i 1 else bytes_eq (slice_index_or by.names (i - by.before) []) (codes "item"))

abbrev pub argument_tasks : Declarations → Use → (name : List ℕ) → ByName → List Bool → (argument : ℕ) → (base : Val) → Memory → List Task
argument_tasks d aim name by gs i base m =
    if is_instance base m then tasks_for (parameter_for d aim name by gs i base m)
    else if keeps_object name by i then [] else give_way ∷ []

abbrev pub value_bound : Declarations → Use → (name : List ℕ) → ByName → List Bool → (argument : ℕ) → (base : Val) → Val → Memory → Effect Next
value_bound d aim name by gs i base missing m = Fine (gives missing) m
value_bound d aim name by gs i base v m = tasks_next d (argument_tasks d aim name by gs i base m) v m

-- a place is lent where the parameter is ByRef and has its type; any other parameter gets a copy
abbrev pub takes_place : Option Parameter → Path → Bool
takes_place None q = false
takes_place (Some p) q = p.by_reference && not p.many && is_same_type p.of q.of && is_variable_place q.root

abbrev pub lends_place : Declarations → Use → (name : List ℕ) → ByName → List Bool → (argument : ℕ) → (base : Val) → Path → Memory → Bool
lends_place d aim name by gs i base q m = is_instance base m && takes_place (parameter_for d aim name by gs i base m) q

abbrev pub place_copied : Declarations → Use → (name : List ℕ) → ByName → List Bool → (argument : ℕ) → (base : Val) → Path → Memory → Effect Next
place_copied d aim name by gs i base q m = use_then d (argument_tasks d aim name by gs i base m) (read_variable d q m)

-- ---- a member is read or called

abbrev pub call_way : Declarations → ByName → List Bool → (base begun : Val) → List Slot → Way → Memory → Effect Next
call_way d by gs base begun xs w m = if indexes d by gs w then index_along d most_passed (slot_values xs) begun m else at w
  where
    at : Way → Effect Next
    at (by_variable q) = read_variable d q m
    at (by_call p property) = Fine (then_call p base (arranged (parameters_of d p) by xs) []) m
    at (by_setter p) = Bad-at 438 m

abbrev pub late_called : Declarations → (name : List ℕ) → ByName → List Bool → (base begun : Val) → List Slot → Memory → Effect Next
late_called d name by gs base begun xs m = on_fine (found_or 438 (way_by_name d reading name gs base m) m) (λ w m1. call_way d by gs base begun xs w m1)

-- the arguments of a member of the host or of a Collection
abbrev pub host_arguments : (base : Val) → (name : List ℕ) → ByName → List Slot → List Val
host_arguments base name by xs = if has_names by then in_parameter_order base name by (slot_values xs) else slot_values xs

-- ---- a member is assigned to

-- an element of an array takes the value in place; of any other value what the arguments lead to does
abbrev pub let_element : Declarations → Path → List Val → Val → Memory → Effect Next
let_element d q vs v m = in_place d q vs (λ p m1. let_at d p v m1) (let_item most_passed vs v) (λ w m1. let_along d most_passed vs v w m1) m

abbrev pub let_indexed : Declarations → (begun : Val) → List Val → Val → Way → Memory → Effect Next
let_indexed d begun vs v (by_variable q) m = let_element d q vs v m
let_indexed d begun vs v w m = let_along d most_passed vs v begun m

abbrev pub let_plain : Declarations → ByName → (base : Val) → List Slot → Val → Way → Memory → Effect Next
let_plain d by base xs v (by_variable q) m = let_at d q v m
let_plain d by base xs v (by_call p property) m = Fine (then_call p base (arranged (parameters_of d p) by xs) (write most_passed v ∷ [])) m
let_plain d by base xs v (by_setter p) m = put d (by_let p base (arranged (without_last (parameters_of d p)) by xs)) v m

abbrev pub let_way : Declarations → ByName → List Bool → (base begun : Val) → List Slot → Val → Way → Memory → Effect Next
let_way d by gs base begun xs v w m = if indexes d by gs w then let_indexed d begun (slot_values xs) v w m else let_plain d by base xs v w m

-- of a Collection the default member of an item is written
abbrev pub item_let : Declarations → (number : ℕ) → CollectionMember → List Val → Val → Memory → Effect Next
item_let d o is_item vs v m = after_use (over_with (item_found o vs m)) (write most_passed v) (λ w m1. write_along d most_passed v w m1)
item_let d o member vs v m = Bad-at 438 m

abbrev pub host_let : Declarations → (name : List ℕ) → List Val → (base begun : Val) → Val → Memory → Effect Next
host_let d name vs (object (Heap id)) begun v m = on_fine (collection_member id.0 name m) (λ how m1. item_let d id.0 how (as_given vs) v m1)
host_let d name vs base begun v m = if is_instance v m then put d (in_member name vs base begun) v m else nothing_more (member_assigned d name vs base begun v m)

abbrev pub late_let : Declarations → (name : List ℕ) → ByName → List Bool → (base begun : Val) → List Slot → Val → Memory → Effect Next
late_let d name by gs base begun xs v m =
    if is_instance base m then on_fine (found_or 438 (way_by_name d assigning name gs base m) m) (λ w m1. let_way d by gs base begun xs v w m1)
    else host_let d name (host_arguments base name by xs) base begun v m

-- ---- a member is set

-- an element of an array in place; of any other value the default member to which the arguments lead
abbrev pub element_set : Declarations → Path → List Val → Val → Memory → Effect Next
element_set d q vs v m = in_place d q vs (λ p m1. nothing_more (set_at p v m1)) (set_item most_passed vs v) (λ w m1. set_along d most_passed vs v w m1) m

abbrev pub set_way : Declarations → ByName → List Bool → (base begun : Val) → List Slot → Val → Way → Memory → Effect Next
set_way d by gs base begun xs v (by_variable q) m = if indexes d by gs (by_variable q) then element_set d q (slot_values xs) v m else nothing_more (set_at q v m)
set_way d by gs base begun xs v (by_setter p) m =
    on_fine (set_object (last_type (parameters_of d p)) v m) (λ w m1. Fine (then_call p base (arranged (without_last (parameters_of d p)) by xs ++ value w ∷ []) []) m1)
set_way d by gs base begun xs v (by_call p property) m = if indexes d by gs (by_call p property) then set_along d most_passed (slot_values xs) v begun m else Bad-at 438 m

abbrev pub late_set : Declarations → (name : List ℕ) → ByName → List Bool → (base begun : Val) → List Slot → Val → Memory → Effect Next
late_set d name by gs base begun xs v m =
    if is_instance base m then on_fine (found_or 438 (way_by_name d setting name gs base m) m) (λ w m1. set_way d by gs base begun xs v w m1)
    else nothing_more (member_not_set base m)
