-- Objects of classes where a value is wanted, indexed or written: their default members, which may be procedures. A use
-- comes to a value, or to a call with what is then to be done with its result.
use Rattle.std.specs.Prelude.{ℕ, zero, suc, ◌*◌, nat_lt, ◌&&◌, ◌||◌, List, [], ◌∷◌, ◌++◌, map, Bool, true, false, not, if◌then◌else◌, Option, Some, None, slice_index_or}
use Rattle.vba_values.specs.declared.object.HostRef.TheVariants.{Area}
use Rattle.vba_values.specs.declared.object.ObjRef.TheVariants.{Heap, Host}
use Rattle.vba_values.specs.declared.value.Bound.{Bound}
use Rattle.vba_values.specs.Types.{Declared}
use Rattle.vba_values.specs.Types as type
use Rattle.vba_values.specs.Val.{Val, empty, missing, object, array}
use Rattle.sheet_host.specs.Books.{cell_limit}
use Rattle.bound_project.specs.Project.{Declarations, Declaration, Parameter, ProcedureKind, is_sub, Class, Member, is_variable, is_procedure, is_property, no_class, no_declaration, class_at, procedure_at}
use Rattle.bound_project.specs.Parameters.{parameters_of, has_parameters, must_be_given, any_must, without_last, last_type}
use Rattle.vba_meaning.specs.Paths.{in_fields, Root, in_object, in_item, Path}
use Rattle.vba_meaning.specs.Memory.{Slot, value, Memory, number_of, value_at}
use Rattle.vba_meaning.specs.Effects.{Effect, Fine, Bad-at, on_fine, done, class_of, is_collection, set_object, fitted, plain, read_path, assigned, packed, slot_left_out}
use Rattle.vba_meaning.specs.Arrays.{element_at}
use Rattle.vba_meaning.specs.Objects.{made_for, initialize_of, stored_made, set_at}
use Rattle.vba_meaning.specs.Collections.{is_given}
use Rattle.vba_meaning.specs.Host.{is_counted, plains, item_by, written_default, member_assigned}

-- where an assigned value goes at last
pub data Spot : Type 0 where
  in_variable : Path → Spot
  -- a Property Let of an object, with its other arguments
  by_let : (procedure : ℕ) → (self : Val) → List Slot → Spot
  -- the default member of a range; and a member of an object of the host or of a Collection, with its arguments
  in_range : (target : Val) → Spot
  in_member : (name : List ℕ) → List Val → (base begun : Val) → Spot

-- what is to be done with a value
pub data Task : Type 0 where
  -- as an operand it gives way to the value of its default member, which must be no object
  as_operand : Task
  no_object : Task
  -- an object of a class alone gives way
  give_way : Task
  -- it must be a Collection
  walked : Task
  -- it becomes one of this type
  fit_to : Declared → Task
  -- these arguments index it, and its default member is written: along default members, so many more at most
  index_by : (left : ℕ) → List Val → Task
  write : (left : ℕ) → Val → Task
  -- what these arguments lead to takes a value
  let_item : (left : ℕ) → List Val → Val → Task
  -- what these arguments lead to is set
  set_item : (left : ℕ) → List Val → Val → Task
  put_in : Spot → Task
  -- a Class_Initialize is over: what was made is stored, and read
  read_made : Path → Val → Task

-- how a use goes on
pub data Next : Type 0 where
  gives : Val → Next
  then_call : (procedure : ℕ) → (self : Val) → List Slot → List Task → Next

-- no more default members than these are passed in a row
abbrev pub most_passed : ℕ
most_passed = 8

-- a use that is over with this value
abbrev pub over_with : Effect Val → Effect Next
over_with e = on_fine e (λ v m. Fine (gives v) m)

-- what a use gives is used at once, and what a call gives as this task says
abbrev pub goes_by : Task → (Val → Memory → Effect Next) → Next → Memory → Effect Next
goes_by t f (gives v) m = f v m
goes_by t f (then_call p self xs ts) m = Fine (then_call p self xs (ts ++ t ∷ [])) m

abbrev pub after_use : Effect Next → Task → (Val → Memory → Effect Next) → Effect Next
after_use e t f = on_fine e (λ n m. goes_by t f n m)

-- ---- members

-- an object of a class; a Collection is none
abbrev pub is_instance : Val → Memory → Bool
is_instance (object (Heap id)) m = not (is_collection (Heap id) m)
is_instance v m = false

abbrev pub class_of_value : Declarations → Val → Memory → Class
class_of_value d (object o) m = class_at d (class_of o m)
class_of_value d v m = no_class

abbrev pub is_bounded : List Bound → Bool
is_bounded [] = false
is_bounded (b ∷ bs) = true

-- where a variable of an object is
abbrev pub variable_in : (number field : ℕ) → (makes : Option ℕ) → Declaration → Path
variable_in o i makes x = record { root = in_fields o i; steps = []; of = x.of; bounded = is_bounded x.bounds; makes = makes }

abbrev pub variable_of : Declarations → Val → (field : ℕ) → (makes : Option ℕ) → Memory → Path
variable_of d v i makes m = variable_in (number_of v) i makes (slice_index_or (class_of_value d v m).fields i no_declaration)

abbrev pub is_object_type : Declared → Bool
is_object_type type.object = true
is_object_type (type.class c) = true
is_object_type type.collection = true
is_object_type type.worksheet = true
is_object_type type.range = true
is_object_type of = false

-- a value of this type may be an object
abbrev pub can_be_object : Declared → Bool
can_be_object type.variant = true
can_be_object of = is_object_type of

abbrev pub is_sub_kind : ProcedureKind → Bool
is_sub_kind is_sub = true
is_sub_kind kind = false

-- ---- a member is read without arguments

-- a procedure that takes none: 449 where one must be given
abbrev pub read_by : Declarations → (procedure : ℕ) → (self : Val) → Memory → Effect Next
read_by d p self m = if any_must (parameters_of d p) then Bad-at 449 m else Fine (then_call p self (map slot_left_out (parameters_of d p)) []) m

-- a variable; one declared As New gets its object first
abbrev pub read_made_by : Path → Val → Option ℕ → Memory → Effect Next
read_made_by q v None m = on_fine (stored_made q v m) (λ u m1. over_with (read_path q m1))
read_made_by q v (Some p) m = Fine (then_call p v [] (read_made q v ∷ [])) m

abbrev pub read_variable : Declarations → Path → Memory → Effect Next
read_variable d q m = on_fine (made_for d q m) (λ v m1. read_made_by q v (initialize_of d q v) m1)

-- any: 438 for a property that has no Get
abbrev pub read_member : Declarations → Val → Member → Memory → Effect Next
read_member d v (is_variable i makes) m = read_variable d (variable_of d v i makes m) m
read_member d v (is_procedure p) m = read_by d p v m
read_member d v (is_property (Some p) lets sets) m = read_by d p v m
read_member d v (is_property None lets sets) m = Bad-at 438 m

-- the default member, and the enumerator: 438 where a class has none
abbrev pub read_default : Declarations → Val → Option Member → Memory → Effect Next
read_default d v None m = Bad-at 438 m
read_default d v (Some x) m = read_member d v x m

-- ---- operands ([MS-VBAL] 5.6.2.3)

-- a default member's value that is an object raises 438
abbrev pub no_object_here : Val → Memory → Effect Next
no_object_here (object o) m = Bad-at 438 m
no_object_here v m = Fine (gives v) m

-- of a counted object: Item of a Collection must have an argument
abbrev pub counted_operand : Declarations → Val → Memory → Effect Next
counted_operand d v m =
    if is_instance v m then after_use (read_default d v (class_of_value d v m).default m) no_object no_object_here
    else Bad-at 449 m

abbrev pub operand_of : Declarations → Val → Memory → Effect Next
operand_of d v m = if is_counted v then counted_operand d v m else over_with (plain v m)

-- ---- arguments that index a value

-- a value as a parameter takes it, where it is none of an object of a class
abbrev pub given_to : Declared → Val → Memory → Effect Val
given_to of v m = if can_be_object of then fitted of v m else on_fine (plain v m) (λ w m1. fitted of w m1)

-- a given argument has no parameter; a parameter has no argument that must be given
abbrev pub any_given : List Val → Bool
any_given [] = false
any_given (v ∷ vs) = is_given v || any_given vs

abbrev pub too_many : List Parameter → List Val → Bool
too_many [] vs = any_given vs
too_many (q ∷ qs) [] = false
too_many (q ∷ qs) (v ∷ vs) = not q.many && too_many qs vs

abbrev pub too_few : List Parameter → List Val → Bool
too_few [] vs = false
too_few (q ∷ qs) [] = any_must (q ∷ qs)
too_few (q ∷ qs) (v ∷ vs) = (must_be_given q && not (is_given v)) || too_few qs vs

-- what parameters have of these arguments, which become what each takes in their order: a ParamArray all further ones
abbrev pub slot_given : Parameter → Val → Memory → Effect Slot
slot_given q missing m = Fine (slot_left_out q) m
slot_given q v m = on_fine (given_to q.of v m) (λ w m1. Fine (value w) m1)

abbrev pub slots_in : List Parameter → List Val → Memory → Effect (List Slot)
slots_in [] vs m = Fine [] m
slots_in (q ∷ qs) [] m = on_fine (slots_in qs [] m) (λ xs m1. Fine (slot_left_out q ∷ xs) m1)
slots_in (q ∷ qs) (v ∷ vs) m =
    if q.many then Fine (value (packed (map value (v ∷ vs))) ∷ []) m
    else on_fine (slot_given q v m) (λ x m1. on_fine (slots_in qs vs m1) (λ xs m2. Fine (x ∷ xs) m2))

-- 450 comes before 449, and both before any argument becomes what its parameter takes
abbrev pub slots_from : List Parameter → List Val → Memory → Effect (List Slot)
slots_from qs vs m = if too_many qs vs then Bad-at 450 m else if too_few qs vs then Bad-at 449 m else slots_in qs vs m

abbrev pub reader_of : Member → Option ℕ
reader_of (is_variable i makes) = None
reader_of (is_procedure p) = Some p
reader_of (is_property reads lets sets) = reads

-- a default member takes the arguments itself, or passes them on to what it gives
abbrev pub index_default : Declarations → Val → List Val → Member → (pass : Member → Memory → Effect Next) → Memory → Effect Next
index_default d w vs x pass m = at (reader_of x)
  where
    at : Option ℕ → Effect Next
    at None = pass x m
    at (Some p) = if has_parameters (parameters_of d p) then on_fine (slots_from (parameters_of d p) vs m) (λ xs m1. Fine (then_call p w xs []) m1) else pass x m

abbrev pub index_member : Declarations → Val → List Val → Option Member → (pass : Member → Memory → Effect Next) → Memory → Effect Next
index_member d w vs None pass m = Bad-at 438 m
index_member d w vs (Some x) pass m = index_default d w vs x pass m

-- an element of an array, an item of an object, or what a default member gives
abbrev pub index_once : Declarations → Val → List Val → (pass : Member → Memory → Effect Next) → Memory → Effect Next
index_once d w vs pass m = if is_instance w m then index_member d w vs (class_of_value d w m).default pass m else over_with (item_by w vs m)

-- where one default member more would be passed the arguments are too many
abbrev pub index_along : Declarations → (left : ℕ) → List Val → Val → Memory → Effect Next
index_along d zero vs w m = index_once d w vs (λ x m1. Bad-at 450 m1) m
index_along d (suc k) vs w m = index_once d w vs (λ x m1. after_use (read_member d w x m1) (index_by k vs) (λ u m2. index_along d k vs u m2)) m

-- ---- arguments behind a place

-- whether a variable has what is there, or a With block: what an index gave is no place
abbrev pub is_variable_place : Root → Bool
is_variable_place (in_object o) = false
is_variable_place (in_item v) = false
is_variable_place root = true

-- whether there is an array, whose elements are places
abbrev pub is_array : Option Val → Bool
is_array (Some (array bounds of items)) = true
is_array x = false

abbrev pub has_array : Path → Memory → Bool
has_array q m = is_variable_place q.root && is_array (value_at m q)

-- the element with these numbers: an object among them gives way
abbrev pub element_by : Path → List Val → Memory → Effect Path
element_by q vs m = on_fine (plains vs m) (λ ws m1. element_at q ws m1)

-- of anything else what is there is read, and the arguments index that
abbrev pub item_along : Declarations → Path → List Val → Memory → Effect Next
item_along d q vs m = after_use (read_variable d q m) (index_by most_passed vs) (λ w m1. index_along d most_passed vs w m1)

-- the element is stored to, or what is there is read and the rest is done with that
abbrev pub in_place : Declarations → Path → List Val → (store : Path → Memory → Effect Next) → Task → (go : Val → Memory → Effect Next) → Memory → Effect Next
in_place d q vs store t go m = if has_array q m then on_fine (element_by q vs m) store else after_use (read_variable d q m) t go

-- a default member that takes no arguments: those behind a variable lead to its place, those behind another to what it gives
abbrev pub leads_on : Declarations → (self : Val) → List Val → (store : Path → Memory → Effect Next) → Task → (go : Val → Memory → Effect Next) → Member → Memory → Effect Next
leads_on d self vs store t go (is_variable i makes) m = in_place d (variable_of d self i makes m) vs store t go m
leads_on d self vs store t go x m = after_use (read_member d self x m) t go

-- ---- a value is put where it goes

-- a Property Let whose value has an object type takes the object itself
abbrev pub takes_itself : Declarations → Spot → Bool
takes_itself d (by_let p self xs) = is_object_type (last_type (parameters_of d p))
takes_itself d spot = false

abbrev pub nothing_more : Effect (Unit {0}) → Effect Next
nothing_more e = on_fine e (λ u m. Fine (gives empty) m)

abbrev pub put_value : Declarations → Spot → Val → Memory → Effect Next
put_value d (in_variable q) v m = nothing_more (assigned q v m)
put_value d (by_let p self xs) v m = on_fine (fitted (last_type (parameters_of d p)) v m) (λ w m1. Fine (then_call p self (xs ++ value w ∷ []) []) m1)
put_value d (in_range w) v m = nothing_more (written_default w v m)
put_value d (in_member name vs base begun) v m = nothing_more (member_assigned d name vs base begun v m)

-- any other value gives way first
abbrev pub put : Declarations → Spot → Val → Memory → Effect Next
put d spot v m = if takes_itself d spot then put_value d spot v m else after_use (operand_of d v m) (put_in spot) (λ w m1. put_value d spot w m1)

-- ---- a default member is written

-- a range that isn't too large
abbrev pub takes_value : (target : Val) → Bool
takes_value (object (Host (Area s t l r c))) = not (nat_lt cell_limit (r * c))
takes_value w = false

abbrev pub write_host : Declarations → Val → (target : Val) → Memory → Effect Next
write_host d v w m = if takes_value w then put d (in_range w) v m else nothing_more (written_default w v m)

-- a variable takes the value, a Property Let without further arguments is called, and what else gives an object passes it
-- on to that one
abbrev pub write_variable : Declarations → Val → Path → Member → (pass : Member → Memory → Effect Next) → Memory → Effect Next
write_variable d v q x pass m = if is_object_type q.of then pass x m else put d (in_variable q) v m

abbrev pub write_let : Declarations → Val → (self : Val) → (procedure : ℕ) → Memory → Effect Next
write_let d v self p m =
    if any_must (without_last (parameters_of d p)) then Bad-at 449 m
    else put d (by_let p self (map slot_left_out (without_last (parameters_of d p)))) v m

abbrev pub write_default : Declarations → Val → (target : Val) → Member → (pass : Member → Memory → Effect Next) → Memory → Effect Next
write_default d v w (is_variable i makes) pass m = write_variable d v (variable_of d w i makes m) (is_variable i makes) pass m
write_default d v w (is_procedure p) pass m = if is_sub_kind (procedure_at d p).kind then Bad-at 438 m else pass (is_procedure p) m
write_default d v w (is_property reads (Some p) sets) pass m = write_let d v w p m
write_default d v w (is_property reads None sets) pass m = pass (is_property reads None sets) m

abbrev pub write_member : Declarations → Val → (target : Val) → Option Member → (pass : Member → Memory → Effect Next) → Memory → Effect Next
write_member d v w None pass m = Bad-at 438 m
write_member d v w (Some x) pass m = write_default d v w x pass m

abbrev pub write_once : Declarations → Val → (target : Val) → (pass : Member → Memory → Effect Next) → Memory → Effect Next
write_once d v w pass m = if is_instance w m then write_member d v w (class_of_value d w m).default pass m else write_host d v w m

abbrev pub write_along : Declarations → (left : ℕ) → Val → (target : Val) → Memory → Effect Next
write_along d zero v w m = write_once d v w (λ x m1. Bad-at 450 m1) m
write_along d (suc k) v w m = write_once d v w (λ x m1. after_use (read_member d w x m1) (write k v) (λ u m2. write_along d k v u m2)) m

-- ---- what arguments lead to takes a value

-- a place takes a value: one of an object type has the default member of its object written
abbrev pub let_at : Declarations → Path → Val → Memory → Effect Next
let_at d q v m = if is_object_type q.of then after_use (read_variable d q m) (write most_passed v) (λ u m1. write_along d most_passed v u m1) else put d (in_variable q) v m

-- a Property Let of the default member takes the arguments and the value; a Get or Function that takes them gives an
-- object, whose default member is written; and what takes none passes both on
abbrev pub let_called_with : Declarations → Val → List Val → (self : Val) → (procedure : ℕ) → Memory → Effect Next
let_called_with d v vs self p m = on_fine (slots_from (parameters_of d p) vs m) (λ xs m1. Fine (then_call p self xs (write most_passed v ∷ [])) m1)

abbrev pub let_by_reader : Declarations → Val → List Val → (self : Val) → Member → Option ℕ → (pass : Member → Memory → Effect Next) → Memory → Effect Next
let_by_reader d v vs self x None pass m = pass x m
let_by_reader d v vs self x (Some p) pass m = if has_parameters (parameters_of d p) then let_called_with d v vs self p m else pass x m

abbrev pub let_setter : Member → Option ℕ
let_setter (is_property reads lets sets) = lets
let_setter x = None

abbrev pub let_default : Declarations → Val → List Val → (self : Val) → Member → Option ℕ → (pass : Member → Memory → Effect Next) → Memory → Effect Next
let_default d v vs self x None pass m = let_by_reader d v vs self x (reader_of x) pass m
let_default d v vs self x (Some p) pass m =
    if has_parameters (without_last (parameters_of d p)) then on_fine (slots_from (without_last (parameters_of d p)) vs m) (λ xs m1. put d (by_let p self xs) v m1)
    else let_by_reader d v vs self x (reader_of x) pass m

abbrev pub let_member : Declarations → Val → List Val → (self : Val) → Option Member → (pass : Member → Memory → Effect Next) → Memory → Effect Next
let_member d v vs self None pass m = Bad-at 438 m
let_member d v vs self (Some x) pass m = let_default d v vs self x (let_setter x) pass m

-- an item of an object of the host or of a Collection has its default member written; an element of an array that nothing
-- keeps takes the value for nothing
abbrev pub let_item_of : Declarations → Val → List Val → (target : Val) → Memory → Effect Next
let_item_of d v vs (object o) m = after_use (over_with (item_by (object o) vs m)) (write most_passed v) (λ w m1. write_along d most_passed v w m1)
let_item_of d v vs w m = on_fine (item_by w vs m) (λ u m1. operand_of d v m1)

abbrev pub let_once : Declarations → Val → List Val → (target : Val) → (pass : Member → Memory → Effect Next) → Memory → Effect Next
let_once d v vs w pass m = if is_instance w m then let_member d v vs w (class_of_value d w m).default pass m else let_item_of d v vs w m

abbrev pub let_along : Declarations → (left : ℕ) → List Val → Val → (target : Val) → Memory → Effect Next
let_along d zero vs v w m = let_once d v vs w (λ x m1. Bad-at 450 m1) m
let_along d (suc k) vs v w m =
    let_once d v vs w (λ x m1. leads_on d w vs (λ p m2. let_at d p v m2) (let_item k vs v) (λ u m2. let_along d k vs v u m2) x m1) m

-- ---- what arguments lead to is set ([MS-VBAL] 5.4.3.9)

-- a Property Set of the default member takes the arguments, and the object by the test of Set
abbrev pub set_called_with : Declarations → Val → List Val → (self : Val) → (procedure : ℕ) → Memory → Effect Next
set_called_with d v vs self p m =
    on_fine (slots_from (without_last (parameters_of d p)) vs m) (λ xs m1.
    on_fine (set_object (last_type (parameters_of d p)) v m1) (λ w m2. Fine (then_call p self (xs ++ value w ∷ []) []) m2))

-- what takes no arguments passes both on, and any other member can't be set
abbrev pub set_by_reader : Declarations → Member → Option ℕ → (pass : Member → Memory → Effect Next) → Memory → Effect Next
set_by_reader d x None pass m = pass x m
set_by_reader d x (Some p) pass m = if has_parameters (parameters_of d p) then Bad-at 438 m else pass x m

abbrev pub setter_of : Member → Option ℕ
setter_of (is_property reads lets sets) = sets
setter_of x = None

abbrev pub set_default : Declarations → Val → List Val → (self : Val) → Member → Option ℕ → (pass : Member → Memory → Effect Next) → Memory → Effect Next
set_default d v vs self x None pass m = set_by_reader d x (reader_of x) pass m
set_default d v vs self x (Some p) pass m = if has_parameters (without_last (parameters_of d p)) then set_called_with d v vs self p m else set_by_reader d x (reader_of x) pass m

abbrev pub set_by_member : Declarations → Val → List Val → (self : Val) → Option Member → (pass : Member → Memory → Effect Next) → Memory → Effect Next
set_by_member d v vs self None pass m = Bad-at 438 m
set_by_member d v vs self (Some x) pass m = set_default d v vs self x (setter_of x) pass m

-- an element of an array that nothing keeps takes the object for nothing; no item of an object of the host or of a
-- Collection can be set
abbrev pub element_of : Val → Declared
element_of (array bounds of items) = of
element_of v = type.variant

abbrev pub set_item_of : Val → List Val → (target : Val) → Memory → Effect Next
set_item_of v vs (object o) m = on_fine (item_by (object o) vs m) (λ w m1. on_fine (set_object type.variant v m1) (λ x m2. Bad-at 438 m2))
set_item_of v vs w m = nothing_more (on_fine (item_by w vs m) (λ u m1. on_fine (set_object (element_of w) v m1) (λ x m2. done m2)))

abbrev pub set_once : Declarations → Val → List Val → (target : Val) → (pass : Member → Memory → Effect Next) → Memory → Effect Next
set_once d v vs w pass m = if is_instance w m then set_by_member d v vs w (class_of_value d w m).default pass m else set_item_of v vs w m

abbrev pub set_along : Declarations → (left : ℕ) → List Val → Val → (target : Val) → Memory → Effect Next
set_along d zero vs v w m = set_once d v vs w (λ x m1. Bad-at 450 m1) m
set_along d (suc k) vs v w m =
    set_once d v vs w (λ x m1. leads_on d w vs (λ p m2. nothing_more (set_at p v m2)) (set_item k vs v) (λ u m2. set_along d k vs v u m2) x m1) m

-- ---- For Each over an object of a class ([MS-VBAL] 5.4.2.4)

-- what an enumerator gives must be a Collection
abbrev pub has_items : Val → Memory → Bool
has_items (object o) m = is_collection o m
has_items v m = false

abbrev pub collection_here : Val → Memory → Effect Next
collection_here v m = if has_items v m then Fine (gives v) m else Bad-at 438 m

-- an object of a class gives way to the Collection that its enumerator gives; anything else stays
abbrev pub enumerator_of : Declarations → Val → Memory → Effect Next
enumerator_of d v m = if is_instance v m then after_use (read_default d v (class_of_value d v m).enumerator m) walked collection_here else Fine (gives v) m

-- ---- tasks

abbrev pub task_next : Declarations → Task → Val → Memory → Effect Next
task_next d as_operand v m = operand_of d v m
task_next d no_object v m = no_object_here v m
task_next d give_way v m = if is_instance v m then operand_of d v m else Fine (gives v) m
task_next d walked v m = collection_here v m
task_next d (fit_to of) v m = over_with (fitted of v m)
task_next d (index_by k vs) v m = index_along d k vs v m
task_next d (write k w) v m = write_along d k w v m
task_next d (let_item k vs w) v m = let_along d k vs w v m
task_next d (set_item k vs w) v m = set_along d k vs w v m
task_next d (put_in spot) v m = put_value d spot v m
task_next d (read_made q w) v m = read_made_by q w None m

-- one after another, up to a call
abbrev pub followed : List Task → (Val → Memory → Effect Next) → Next → Memory → Effect Next
followed ts f (gives v) m = f v m
followed ts f (then_call p self xs more) m = Fine (then_call p self xs (more ++ ts)) m

abbrev pub tasks_next : Declarations → List Task → Val → Memory → Effect Next
tasks_next d [] v m = Fine (gives v) m
tasks_next d (t ∷ ts) v m = on_fine (task_next d t v m) (λ n m1. followed ts (λ w m2. tasks_next d ts w m2) n m1)

-- a use, and then these tasks
abbrev pub use_then : Declarations → List Task → Effect Next → Effect Next
use_then d ts e = on_fine e (λ n m. followed ts (λ w m1. tasks_next d ts w m1) n m)

-- no use makes more calls than this
abbrev pub most_calls : ℕ
most_calls = 32

-- IsEmpty and its kin look at the value of a default member where that needs no argument: any other object stays
abbrev pub reads_alone : Declarations → Member → Bool
reads_alone d (is_variable i makes) = true
reads_alone d (is_procedure p) = not (any_must (parameters_of d p))
reads_alone d (is_property (Some p) lets sets) = not (any_must (parameters_of d p))
reads_alone d (is_property None lets sets) = false

abbrev pub has_default_alone : Declarations → Option Member → Bool
has_default_alone d None = false
has_default_alone d (Some x) = reads_alone d x

abbrev pub counted_if_any : Declarations → Val → Memory → Effect Next
counted_if_any d v m =
    if is_instance v m && has_default_alone d (class_of_value d v m).default then read_default d v (class_of_value d v m).default m
    else Fine (gives v) m
