-- Terms as values, references and operands, and as arguments for parameters ([MS-VBAL] 5.6.2.3, 5.6.12, 5.6.13).
use Rattle.std.specs.Prelude.{ℕ, zero, suc, ◌==◌, Bool, true, false, ◌&&◌, ◌||◌, not, pos, List, ◌∷◌, length, codes, Option, Some, None, is_some, option_map, option_and_then, bytes_eq, if◌then◌else◌, unwrap_or, nat_le, []}
use Rattle.vba_base.specs.declared.place.Place.{Place}
use Rattle.vba_values.specs.Types.{Declared}
use Rattle.vba_values.specs.Types as type
use Rattle.vba_expression.specs.Tree.{Expr, literal, me, name, with_member, member, index, parenthesised, new, type_of, unary, binary, Args, missing}
use Rattle.vba_lib.specs.declared.function.LibraryFunction.{LibraryFunction}
use Rattle.vba_lib.specs.Library.{arity_of, declared_of}
use Rattle.bound_project.specs.Expressions.{err_number, Node, constant, load, element_value, field_value, err_value, default_of, host_object, host_member, named_member, late_member, late_item, marked, Lvalue, variable, item, element, Exprs, no_exprs, also, load_made, method}
use Rattle.bound_project.specs.Expressions as bound
use Rattle.vba_values.specs.declared.object.HostRef.{HostRef}
use Rattle.bound_project.specs.Project.{Declarations}
use Rattle.binder.specs.Options.{or_else, from_two}
use Rattle.binder.specs.Declarations.{Written}
use Rattle.binder.specs.Scopes.{Space, called, behind}
use Rattle.binder.specs.Types.{is_object}
use Rattle.binder.specs.Constants.{is_variant, compare_in}
use Rattle.binder.specs.Storage.{procedure_number}
use Rattle.bound_forms.specs.Terms.{Env, HostMember, Term, a_value, a_routine, a_function, a_host_member, err_object, no_term, expression_of, broken_rule, given_to, member_read, Given, listed_values, bound_arguments, has_names, takes, a_method, broken_call, read_as, typed_value}
use Rattle.binder.specs.Signatures.{reader, parameters_in, call_type}
use Rattle.bound_forms.specs.ClassDefaults.{Known, known, breaks, not_said, class_led, declared_in, default_read}
use Rattle.vba_lib.specs.declared.function.LibraryFunction.TheVariants as function
use Rattle.vba_values.specs.declared.object.HostRef.TheVariants as host
use Rattle.binder.specs.Classes.{has_class}

-- ---- places

-- where an expression is told: at its operator where it is one's, in parentheses too, and else at its first token
abbrev pub place_told : Expr → Place
place_told (literal l) = l.token.place
place_told (me token) = token.place
place_told (name x) = x.token.place
place_told (with_member dot x) = dot.place
place_told (member base dot x) = place_told base
place_told (index base left args right) = place_told base
place_told (parenthesised left e right) = place_told e
place_told (new new_word t) = new_word.place
place_told (type_of type_of_word e is_word t) = type_of_word.place
place_told (unary operator token e) = token.place
place_told (binary l operator token r) = token.place

-- ---- objects of classes

-- whether a function of the library may give an object: one of its arguments
abbrev pub may_give_object : LibraryFunction → Bool
may_give_object function.IIf = true
may_give_object function.CVar = true
may_give_object f = false

-- whether a Variant may be an object: what variables, elements and calls give; and what breaks a rule
abbrev pub may_be_object : Node → Bool
may_be_object (load x) = true
may_be_object (load_made x) = true
may_be_object (element_value e es) = true
may_be_object (field_value e i) = true
may_be_object (bound.call procedure args) = true
may_be_object (method e procedure args) = true
may_be_object (host_member e member_name es) = true
may_be_object (named_member e member_name by es) = true
may_be_object (late_member e member_name by given) = true
may_be_object (late_item e es) = true
may_be_object (bound.library f text_form es compare base) = may_give_object f
may_be_object (marked broken es) = true
may_be_object node = false

-- what the host gives is no object of a class, but for an item, which may be one of a Collection; neither is Nothing, nor
-- what breaks a rule
abbrev pub is_item_name : (name : List ℕ) → Bool
is_item_name word = bytes_eq word (codes "item")

abbrev pub is_value_name : (name : List ℕ) → Bool
is_value_name word = bytes_eq word (codes "value")

abbrev pub is_of_host : Node → Bool
is_of_host (constant v) = true
is_of_host (host_object reference) = true
is_of_host (host_member e member_name es) = not (is_item_name member_name)
is_of_host (named_member e member_name by es) = not (is_item_name member_name)
is_of_host (marked broken es) = true
is_of_host node = false

abbrev pub is_instance_type : Node → Declared → Bool
is_instance_type node type.object = true
is_instance_type node (type.class number) = true
is_instance_type node type.variant = may_be_object node
is_instance_type node other = false

-- whether there may be an object of a class in the run, so that the run says what members there are
abbrev pub may_be_instance : Env → bound.Expr → Bool
may_be_instance env (bound.expr node place of operand) = has_class env.scope.spaces && (is_instance_type node of && not (is_of_host node))

-- whether the run says what members a value has: where it isn't declared as of a class
abbrev pub is_of_class : Declared → Bool
is_of_class (type.class number) = true
is_of_class other = false

abbrev pub is_found_late : Env → bound.Expr → Bool
is_found_late env (bound.expr node place of operand) = not (is_of_class of) && may_be_instance env (bound.expr node place of operand)

-- ---- elements and fields ([MS-VBAL] 5.6.12, 5.6.13)

-- the type of what an index gives, where something can be indexed before the run
abbrev pub element_type : Declared → Option Declared
element_type (type.array_of of) = Some of
element_type type.variant = Some type.variant
element_type other = None

abbrev pub indexed_type : Env → bound.Expr → Option Declared
indexed_type env (bound.expr node place of operand) = if may_be_instance env (bound.expr node place of operand) then None else element_type of

-- numbers of a place: none is missing and none is named
abbrev pub are_numbers : List Given → Bool
are_numbers [] = false
are_numbers (g ∷ []) = is_some g.term
are_numbers (g ∷ gs) = is_some g.term && are_numbers gs

abbrev pub are_places : List Given → Bool
are_places gs = are_numbers gs && not (has_names gs)

-- an array that is declared with bounds has as many numbers as it has bounds
abbrev pub fits_bounds : (bounds : ℕ) → List Given → Bool
fits_bounds zero gs = true
fits_bounds bounds gs = length gs == bounds

abbrev pub numbers_of : (Term → Place → Option bound.Expr) → List Given → Option Exprs
numbers_of value gs = if are_places gs then listed_values value gs else None

abbrev pub element_place : Lvalue → Exprs → Lvalue
element_place (variable x) es = item x es
element_place x es = element x es

-- no term where there is no answer
abbrev pub if_there : Option Term → Term
if_there t = unwrap_or t no_term

abbrev pub with_type : Option Declared → Option Exprs → (Declared → Exprs → Term) → Term
with_type of es term = if_there (from_two term of es)

-- arguments that index what the run says: none has a name, and one that isn't written is Missing
abbrev pub along_of : (Term → Place → Option bound.Expr) → List Given → Option Exprs
along_of value [] = None
along_of value gs = if has_names gs then None else listed_values (λ t place. option_map (given_to type.variant false place) (value t place)) gs

-- of which type arguments lead to something that the run finds: behind an object of a class what its default member says
abbrev pub type_known : Known → Option Declared
type_known (known of) = Some of
type_known other = None

abbrev pub along_type : Env → bound.Expr → List Given → Option Declared
along_type env (bound.expr node place (type.class number) operand) gs = type_known (class_led (declared_in env.scope) number gs)
along_type env e gs = if is_found_late env e then Some type.variant else None

-- the value of a call whose arguments index what it gives, and of one that takes them
abbrev pub element_of_value : (value : Term → Place → Option bound.Expr) → Env → bound.Expr → List Given → Term
element_of_value value env e gs = with_type (indexed_type env e) (numbers_of value gs) (λ u xs. a_value (element_value e xs) u)

abbrev pub indexed_value : (number_of along : Term → Place → Option bound.Expr) → Env → Place → Node → Declared → List Given → Term
indexed_value number_of along env place node of gs = at (along_type env (expression_of node place of) gs)
  where
    at : Option Declared → Term
    at None = element_of_value number_of env (expression_of node place of) gs
    at (Some u) = if_there (option_map (λ es. a_value (late_item (expression_of node place of) es) u) (along_of along gs))

-- a procedure of a standard module, and of an object
abbrev pub call_node : Option bound.Expr → (procedure : ℕ) → bound.Args → Node
call_node None q args = bound.call q args
call_node (Some base) q args = method base q args

abbrev pub call_value : Env → Option bound.Expr → Space → ℕ → Written → Option bound.Args → Term
call_value env base space number p args =
    if_there (option_map (λ xs. a_value (call_node base (procedure_number env.scope space number) xs) (call_type env.scope space p)) args)

-- a call without arguments
abbrev pub bare_call : Env → Option bound.Expr → Space → ℕ → Written → Term
bare_call env base space number p = if_there (option_map called (reader env.scope space number p))
  where
    called : ℕ × Written → Term
    called f = call_value env base space f.0 f.1 (bound_arguments (λ of t place. None) (parameters_in env.scope space f.1) [])

-- the object whose procedure is called stands before its arguments
abbrev pub behind_base : Option bound.Expr → Exprs → Exprs
behind_base None es = es
behind_base (Some base) es = also base es

-- ---- what stands without arguments

-- whether it takes so many: 255 is no limit
abbrev pub takes_count : LibraryFunction → ℕ → Bool
takes_count f count = at (arity_of f)
  where
    at : ℕ × ℕ → Bool
    at (least, greatest) = nat_le least count && (greatest == 255 || nat_le count greatest)

-- whether it needs the argument with a number: InStr the second and third, and the first where that is no start
abbrev pub needs : LibraryFunction → ℕ → Bool
needs function.InStr i = i == 1 || i == 2
needs f i = nat_le (suc i) (arity_of f).0

abbrev pub lacks_needed : LibraryFunction → (i : ℕ) → List Given → Bool
lacks_needed f i [] = false
lacks_needed f i (g ∷ gs) = (not (is_some g.term) && needs f i) || lacks_needed f (suc i) gs

abbrev pub first_given : List Given → Bool
first_given [] = true
first_given (g ∷ gs) = is_some g.term

abbrev pub has_start : LibraryFunction → (count : ℕ) → (first : Bool) → Bool
has_start function.InStr count first = first || nat_le 3 count
has_start f count first = true

-- S25: whether it takes these arguments: none has a name, they are as many as it takes, and none that it needs is lacking
abbrev pub is_wrong : LibraryFunction → List Given → Bool
is_wrong f gs = has_names gs || lacks_needed f 0 gs

abbrev pub function_takes : LibraryFunction → List Given → Bool
function_takes f gs = not (is_wrong f gs) && (takes_count f (length gs) && has_start f (length gs) (first_given gs))

-- what a function gives; S25 where it doesn't take its arguments
abbrev pub function_value : Env → Place → LibraryFunction → (text_form : Bool) → (base : ℕ) → (takes : Bool) → Exprs → Term
function_value env place f text_form base true es = a_value (bound.library f text_form es (compare_in env.scope) (pos base)) (declared_of f text_form)
function_value env place f text_form base false es = broken_call 25 place (declared_of f text_form) es

abbrev pub term_or : Term → Term → Term
term_or no_term other = other
term_or t other = t

-- S25: a procedure without the arguments that it needs
abbrev pub lacking_call : Env → Place → Option bound.Expr → Space → ℕ → Written → Term
lacking_call env place base space number p = if_there (option_and_then lacking (reader env.scope space number p))
  where
    lacking : ℕ × Written → Option Term
    lacking f =
        if takes (parameters_in env.scope space f.1) [] then None
        else Some (broken_call 25 place (call_type env.scope space f.1) (behind_base base no_exprs))

abbrev pub called_alone : Env → Place → Option bound.Expr → Space → ℕ → Written → Term
called_alone env place base space number p = term_or (bare_call env base space number p) (lacking_call env place base space number p)

-- the same of a member
abbrev pub read_alone : Place → bound.Expr → HostMember → Term
read_alone place e m = if m.least == 0 then a_value (member_read e m) m.of else broken_call 25 place m.of (also e no_exprs)

-- what a procedure, a member or a function of the library is where no arguments stand behind it
abbrev pub alone : Env → Place → Term → Term
alone env place (a_routine space number p) = called_alone env place None space number p
alone env place (a_method base space number p) = called_alone env place (Some base) space number p
alone env place (a_host_member e m) = read_alone place e m
alone env place (a_function f text_form base) = function_value env place f text_form base (function_takes f []) no_exprs
alone env place t = t

abbrev pub value_of : Env → Term → Place → Option bound.Expr
value_of env t place = read_as typed_value (alone env place t) place

-- ---- objects of the host ([MS-VBAL] 5.6.12)

-- the types of objects that are taken as references: Object, Collection, and those of sheets and ranges
abbrev pub is_host_type : Declared → Bool
is_host_type type.object = true
is_host_type type.collection = true
is_host_type type.worksheet = true
is_host_type type.range = true
is_host_type other = false

-- the same, and those of classes
abbrev pub is_reference_type : Declared → Bool
is_reference_type (type.class number) = true
is_reference_type of = is_host_type of

-- a Variant may have an object: whether it has one the run decides
abbrev pub typed_reference : Node → Place → Declared → Option bound.Expr
typed_reference node place of = if is_reference_type of || is_variant of then Some (expression_of node place of) else None

-- a term as a reference to an object, or as what may be one
abbrev pub reference_of : Env → Term → Place → Option bound.Expr
reference_of env err_object place = Some (expression_of (host_object host.ErrObject) place type.object)
reference_of env t place = read_as typed_reference (alone env place t) place

-- a term as a value or a reference, as it is
abbrev pub given_as : Env → Term → Place → Option bound.Expr
given_as env t place = or_else (value_of env t place) (reference_of env t place)

-- what an object is, where that is known before the run
pub data HostKind : Type 0 where
  application : HostKind
  workbook : HostKind
  sheets : HostKind
  sheet : HostKind
  area : HostKind
  collection : HostKind
  any_object : HostKind

abbrev pub kind_by_type : Declared → Option HostKind
kind_by_type type.collection = Some collection
kind_by_type type.worksheet = Some sheet
kind_by_type type.range = Some area
kind_by_type type.object = Some any_object
kind_by_type type.variant = Some any_object
kind_by_type other = None

abbrev pub kind_of_object : HostRef → Option HostKind
kind_of_object host.Application = Some application
kind_of_object host.Workbook = Some workbook
kind_of_object host.Sheets = Some sheets
kind_of_object other = None

abbrev pub host_kind : Node → Declared → Option HostKind
host_kind (host_object reference) of = kind_of_object reference
host_kind node of = kind_by_type of

-- the rule that is broken where an object gives way to the value of its default member: a sheet, the workbook and
-- Application have none, S34; that of Worksheets and of a Collection needs an argument, S25
abbrev pub default_rule : Option HostKind → Option ℕ
default_rule (Some application) = Some 34
default_rule (Some workbook) = Some 34
default_rule (Some sheet) = Some 34
default_rule (Some sheets) = Some 25
default_rule (Some collection) = Some 25
default_rule kind = None

-- an object that gives way to the value of its default member, or what breaks a rule
abbrev pub given_way : Option ℕ → Place → bound.Expr → bound.Expr
given_way None place e = expression_of (default_of e) place type.variant
given_way (Some rule) place e = broken_rule rule place (also e no_exprs)

-- the same of an object of a class, whose default member is known before the run
abbrev pub class_given_way : Known → Place → bound.Expr → Option bound.Expr
class_given_way (known of) place e = Some (expression_of (default_of e) place of)
class_given_way (breaks rule) place e = Some (broken_rule rule place (also e no_exprs))
class_given_way not_said place e = None

abbrev pub default_value : Declarations → Place → bound.Expr → Option bound.Expr
default_value d place (bound.expr node at (type.class number) operand) =
    class_given_way (default_read d number) place (bound.expr node at (type.class number) operand)
default_value d place (bound.expr node at of operand) = Some (given_way (default_rule (host_kind node of)) place (bound.expr node at of operand))

-- an expression of a Variant's type that may be an object
abbrev pub has_object : Node → Declared → Bool
has_object node of = is_variant of && may_be_object node

-- a value as an operand: an object that a Variant has gives way to the value of its default member
abbrev pub plain_operand : bound.Expr → bound.Expr
plain_operand (bound.expr node at of operand) =
    if has_object node of then expression_of (default_of (bound.expr node at of operand)) at type.variant else bound.expr node at of operand

-- a term as an operand: Err is its number, and another object gives way to the value of its default member
abbrev pub operand_of : Env → Term → Place → Option bound.Expr
operand_of env err_object place = Some (expression_of (err_value err_number) place type.long)
operand_of env t place = or_else (option_map plain_operand (value_of env t place)) (option_and_then (default_value (declared_in env.scope) place) (reference_of env t place))

-- a term as an argument for a parameter: a Variant and a variable of an object type take an object as it is
abbrev pub taken_for : Env → Declared → Term → Place → Option bound.Expr
taken_for env of t place = if is_variant of || is_object of then given_as env t place else operand_of env t place

-- what is given to a parameter of a type, marked where that breaks a rule
abbrev pub argument_of : Env → Declared → Term → Place → Option bound.Expr
argument_of env of t place = option_map (given_to of false place) (taken_for env of t place)
