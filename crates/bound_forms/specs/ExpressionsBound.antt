-- Expressions as terms ([MS-VBAL] 5.6).
use Rattle.std.specs.Prelude.{ℕ, zero, suc, ◌==◌, Bool, true, false, ◌&&◌, ◌||◌, not, List, ◌∷◌, ◌++◌, length, codes, Option, Some, None, is_some, option_map, option_and_then, bytes_eq, if◌then◌else◌, unwrap_or, nat_le, []}
use Rattle.std.specs.List.{list_any}
use Rattle.vba_base.specs.declared.place.Place.{Place}
use Rattle.vba_values.specs.declared.types.OpKind.{OpKind}
use Rattle.vba_values.specs.StaticTypes.{static_of}
use Rattle.vba_values.specs.Types.{Declared}
use Rattle.vba_values.specs.Types as type
use Rattle.vba_values.specs.Val.{Val}
use Rattle.vba_words.specs.declared.identifier.Identifier.{Identifier}
use Rattle.vba_expression.specs.Tree.{Expr, literal, me, name, with_member, member, index, parenthesised, new, type_of, unary, binary, Args, no_args, missing, plain}
use Rattle.vba_expression.specs.Tree as tree
use Rattle.vba_lib.specs.declared.function.LibraryFunction.{LibraryFunction}
use Rattle.vba_lib.specs.Names.{function_named}
use Rattle.vba_meaning.specs.ByName.{parameters_given}
use Rattle.bound_project.specs.Expressions.{Storage, Node, constant, host_object, active_sheet, host_member, named_member, late_member, marked, ByName, Lvalue, variable, item, element, element_along, Exprs, no_exprs, also, none_given, place_given, expr_given, this, new_object}
use Rattle.bound_project.specs.Expressions as bound
use Rattle.bound_project.specs.Project.{Declaration, nowhere}
use Rattle.binder.specs.Options.{from_two, from_three}
use Rattle.binder.specs.Sources.{base_of}
use Rattle.binder.specs.Declarations.{Written, What, a_variable, a_constant, a_member, a_procedure, Entry, Own, the_result, a_parameter, a_local_constant, Local, a_local}
use Rattle.binder.specs.Scopes.{Scope, Space, plainly, called, Meant, of_procedure, of_module, of_host, of_library, Qualifier, declares, behind, qualifier_of, has_dollar}
use Rattle.binder.specs.Types.{is_object, type_meant, meant_type}
use Rattle.binder.specs.Constants.{literal_meant, value_type, operator_kind, unary_kind, compare_in, meant_by, names_in, home}
use Rattle.binder.specs.Storage.{parameter_type, result_type, own_declaration, declared_variable, module_storage, own_storage, has_bounds}
use Rattle.bound_forms.specs.Terms.{Env, HostMember, Term, a_place, a_value, a_routine, a_function, a_host_member, err_object, err_clear, error_word, no_term, expression_of, given_to, is_user_type, Given, listed_values, bound_arguments, has_names, takes, given_by_name, a_method, read_of, broken_call}
use Rattle.binder.specs.Signatures.{is_get, reader, parameters_in, call_type}
use Rattle.bound_forms.specs.ClassDefaults.{Known, known, breaks, class_led, declared_in}
use Rattle.vba_expression.specs.declared.operator.BinaryOperator.TheVariants as operator
use Rattle.vba_lib.specs.declared.function.LibraryFunction.TheVariants as function
use Rattle.vba_values.specs.declared.object.HostRef.TheVariants as host
use Rattle.vba_tree.specs.Tree as written
use Rattle.binder.specs.Classes.{has_class, own_class, field_number, may_be_made}
use Rattle.bound_forms.specs.Operands.{place_told, is_item_name, is_of_class, indexed_type, are_places, fits_bounds, numbers_of, element_place, if_there, with_type, along_of, along_type, indexed_value, call_value, behind_base, needs, function_takes, function_value, term_or, alone, value_of, reference_of, given_as, application, sheets, sheet, collection, has_object, operand_of, argument_of}
use Rattle.bound_forms.specs.Members.{sheets_value, object_member, item_of, declared_at, member_of, kept_member}

-- ---- functions of the library ([MS-VBAL] 6.1.2)

-- how a function takes an argument: an object as it is; its default value where it has one; or its default value
pub data Taking : Type 0 where
  as_it_is : Taking
  default_if_any : Taking
  by_default : Taking

-- the first argument as it is, the others by their default values
abbrev pub first_as_it_is : ℕ → Taking
first_as_it_is zero = as_it_is
first_as_it_is i = by_default

-- by the number of the argument, from 0
abbrev pub taking : LibraryFunction → ℕ → Taking
taking function.IsEmpty i = default_if_any
taking function.IsNull i = default_if_any
taking function.IsArray i = default_if_any
taking function.VarType i = default_if_any
taking function.IsObject i = as_it_is
taking function.IsMissing i = as_it_is
taking function.TypeName i = as_it_is
taking function.Array i = as_it_is
taking function.CVar i = as_it_is
taking function.Join i = first_as_it_is i
taking function.UBound i = first_as_it_is i
taking function.LBound i = first_as_it_is i
taking function.IIf zero = by_default
taking function.IIf i = as_it_is
taking f i = by_default

-- the value of an object's default member where that needs no argument
abbrev pub if_any : bound.Expr → bound.Expr
if_any (bound.expr node at of operand) =
    if is_object of || has_object node of then expression_of (bound.default_if_any (bound.expr node at of operand)) at type.variant
    else bound.expr node at of operand

abbrev pub taken_as : Env → Taking → Term → Place → Option bound.Expr
taken_as env as_it_is t place = given_as env t place
taken_as env default_if_any t place = option_map if_any (given_as env t place)
taken_as env by_default t place = operand_of env t place

-- the arguments of a function, from one with this number on
abbrev pub function_values : Env → LibraryFunction → ℕ → List Given → Option Exprs
function_values env f i [] = Some no_exprs
function_values env f i (g ∷ gs) = from_two also (value g.term) (function_values env f (suc i) gs)
  where
    -- one that isn't written is Missing
    value : Option Term → Option bound.Expr
    value None = Some (expression_of bound.not_given g.place type.variant)
    value (Some t) = option_map (given_to type.variant false g.place) (taken_as env (taking f i) t g.place)

abbrev pub function_called : Env → Place → LibraryFunction → (text_form : Bool) → (base : ℕ) → List Given → Term
function_called env place f text_form base gs = if_there (option_map (function_value env place f text_form base (function_takes f gs)) (function_values env f 0 gs))

-- arguments, each as a Variant takes it: one that isn't written is Missing
abbrev pub variant_arguments : Env → List Given → Option Exprs
variant_arguments env gs = listed_values (argument_of env type.variant) gs

-- Add of a Collection, and the item that it is given: its first argument, or the one of that name
abbrev pub is_add : HostMember → Bool
is_add m = at m.greatest
  where
    at : Option ℕ → Bool
    at None = false
    at (Some greatest) = greatest == 4

-- whether a member takes so many arguments: Cells both numbers or none; behind one that takes none they index what it
-- gives
abbrev pub takes_behind : Declared → ℕ → Bool
takes_behind type.variant count = true
takes_behind type.range count = count == 2
takes_behind other count = false

abbrev pub takes_arguments : HostMember → ℕ → Bool
takes_arguments m count = at m.greatest
  where
    at : Option ℕ → Bool
    at None = true
    at (Some zero) = takes_behind m.of count
    at (Some greatest) = nat_le m.least count && (nat_le count greatest && not (m.least == 0 && count == 1))

-- the names that parameters of a member have, by the greatest number of its arguments: of a sheet's Range the first one's
-- alone, of what takes two numbers both, and four of Add of a Collection
abbrev pub known_parameters : (fold : List ℕ) → (greatest : Option ℕ) → List (List ℕ)
known_parameters fold None = []
known_parameters fold (Some greatest) =
    if greatest == 1 then codes "index" ∷ []
    else if greatest == 2 && bytes_eq fold (codes "range") then codes "address" ∷ []
    else if greatest == 2 then codes "r" ∷ codes "c" ∷ []
    else if greatest == 4 then codes "item" ∷ codes "key" ∷ codes "before" ∷ codes "after" ∷ []
    else []

-- Add of a Collection is given an item
abbrev pub has_item : HostMember → ByName → Bool
has_item m by = not (is_add m) || (not (by.before == 0) || list_any is_item_name by.names)

-- whether a member has parameters of these names, no one given twice; of one that is found in the run the run decides
abbrev pub takes_names : HostMember → ByName → Bool
takes_names m by = not (is_some m.greatest) || (is_some (parameters_given (known_parameters m.name m.greatest) by.before by.names) && has_item m by)

-- how the arguments of a member are named
abbrev pub names_taken : HostMember → List Given → Option ByName
names_taken m gs = option_and_then (λ by. if takes_names m by then Some by else None) (given_by_name gs)

abbrev pub named_called : Env → bound.Expr → HostMember → List Given → Option Node
named_called env e m gs = from_two (λ by es. named_member e m.name by es) (names_taken m gs) (variant_arguments env gs)

-- arguments of a member that the run finds, or that may be objects of classes: a variable by its place, and else a value as it
-- is; one of a Type breaks S27
abbrev pub late_argument : Env → Term → Place → bound.Given → Option bound.Given
late_argument env (a_place x of bounds true makes) place rest =
    if is_user_type of then option_map (λ e. expr_given e rest) (argument_of env type.variant (a_place x of bounds true makes) place) else Some (place_given x rest)
late_argument env t place rest = option_map (λ e. expr_given e rest) (argument_of env type.variant t place)

abbrev pub late_arguments : Env → List Given → Option bound.Given
late_arguments env [] = Some none_given
late_arguments env (g ∷ gs) = option_and_then (at g.term) (late_arguments env gs)
  where
    at : Option Term → bound.Given → Option bound.Given
    at None rest = Some (expr_given (expression_of bound.not_given g.place type.variant) rest)
    at (Some t) rest = late_argument env t g.place rest

abbrev pub late_called : Env → bound.Expr → HostMember → List Given → Option Node
late_called env e m gs = from_two (λ by given. late_member e m.name by given) (given_by_name gs) (late_arguments env gs)

-- a member with arguments, of which the last ones may have names
abbrev pub early_called : Env → bound.Expr → HostMember → List Given → Option Node
early_called env e m gs = if has_names gs then named_called env e m gs else option_map (λ es. host_member e m.name es) (variant_arguments env gs)

-- whether the run looks for a member, or at what it is given: arguments may be objects of classes where there is a class
abbrev pub is_any : List Given → Bool
is_any [] = false
is_any (g ∷ gs) = true

abbrev pub is_called_late : Env → HostMember → List Given → Bool
is_called_late env m gs = m.late || (has_class env.scope.spaces && is_any gs)

-- arguments that have names have those of the member
abbrev pub are_named_right : HostMember → List Given → Bool
are_named_right m gs = not (has_names gs) || is_some (names_taken m gs)

abbrev pub member_called : Env → bound.Expr → HostMember → List Given → Option Node
member_called env e m gs =
    if not (is_called_late env m gs) then early_called env e m gs
    else if are_named_right m gs then late_called env e m gs
    else None

abbrev pub host_called : Env → bound.Expr → HostMember → List Given → Term
host_called env e m gs = if takes_arguments m (length gs) then if_there (option_map (λ node. a_value node m.of) (member_called env e m gs)) else no_term

-- an argument that leads on in the run: a default member may take an object of a class as it is, so one isn't built here
abbrev pub gives_class : Option bound.Expr → Bool
gives_class None = false
gives_class (Some e) = is_of_class (bound.operand_type e)

abbrev pub along_value : Env → Term → Place → Option bound.Expr
along_value env t place = if gives_class (given_as env t place) then None else operand_of env t place

-- what arguments in brackets make of a place. In an element of an array that is declared As New an object is made as well
abbrev pub element_of_place : Env → bound.Expr → Lvalue → (bounds : ℕ) → (lends makes : Bool) → List Given → Term
element_of_place env e x bounds lends makes gs =
    if fits_bounds bounds gs
    then with_type (indexed_type env e) (numbers_of (operand_of env) gs) (λ u es. a_place (element_place x es) u 0 lends makes)
    else no_term

abbrev pub indexed_place : Env → bound.Expr → Lvalue → (bounds : ℕ) → (lends makes : Bool) → List Given → Term
indexed_place env e x bounds lends makes gs = at (along_type env e gs)
  where
    at : Option Declared → Term
    at None = element_of_place env e x bounds lends makes gs
    at (Some u) = if_there (option_map (λ es. a_place (element_along x es) u 0 lends makes) (along_of (along_value env) gs))

-- arguments behind a property without parameters index its value
abbrev pub indexes_value : Written → List Given → Bool
indexes_value p [] = false
indexes_value p (g ∷ gs) = is_get p.kind && length p.parameters == 0

abbrev pub node_or : Term → (Node → Declared → Term) → Term
node_or (a_value node of) term = term node of
node_or other term = no_term

-- brackets behind what a property without parameters gives are brackets behind a value
abbrev pub value_indexed : Env → Place → Term → List Given → Term
value_indexed env place (a_host_member e m) gs = host_called env e m gs
value_indexed env place (a_value node of) gs = indexed_value (operand_of env) (along_value env) env place node of gs
value_indexed env place other gs = no_term

abbrev pub call_with : Env → Place → List Given → Option bound.Expr → Space → ℕ → Written → Term
call_with env place gs base space number p = if_there (option_map called_as (reader env.scope space number p))
  where
    called_as : ℕ × Written → Term
    called_as f =
        if indexes_value f.1 gs
        then node_or (call_value env base space f.0 f.1 (Some bound.no_args)) (λ node of. value_indexed env place (item_of env place (a_value node of)) gs)
        else call_value env base space f.0 f.1 (bound_arguments (argument_of env) (parameters_in env.scope space f.1) gs)

-- what arguments in brackets make of a term, where it takes them
abbrev pub taken_by_term : Env → Place → Term → List Given → Term
taken_by_term env place (a_place x of bounds lends makes) gs = indexed_place env (expression_of (read_of makes x) place of) x bounds lends makes gs
taken_by_term env place (a_value node of) gs = indexed_value (operand_of env) (along_value env) env place node of gs
taken_by_term env place (a_routine space number p) gs = call_with env place gs None space number p
taken_by_term env place (a_method base space number p) gs = call_with env place gs (Some base) space number p
taken_by_term env place (a_function f text_form base) gs = function_called env place f text_form base gs
taken_by_term env place (a_host_member e m) gs = host_called env e m gs
taken_by_term env place other gs = no_term

-- ---- arguments that aren't taken: S25, at the first token of the call

-- what is marked: what stands before the arguments, and each argument as a Variant takes it
abbrev pub wrong_arguments : Env → Place → (rule : ℕ) → Declared → (Exprs → Exprs) → List Given → Term
wrong_arguments env place rule of before gs = if_there (option_map (λ es. broken_call rule place of (before es)) (variant_arguments env gs))

-- only an array, what may have one, and an object are indexed; an array only by numbers, by as many as it is declared with
-- bounds
abbrev pub may_index : Declared → (bounds : ℕ) → List Given → Bool
may_index (type.array_of of) bounds gs = are_places gs && fits_bounds bounds gs
may_index type.variant bounds gs = true
may_index of bounds gs = is_object of

abbrev pub wrong_led : Env → Place → bound.Expr → Known → List Given → Term
wrong_led env place e (breaks rule) gs = wrong_arguments env place rule type.variant (also e) gs
wrong_led env place e other gs = no_term

abbrev pub wrong_index : Env → Place → Node → Declared → (bounds : ℕ) → List Given → Term
wrong_index env place node (type.class number) bounds gs =
    wrong_led env place (expression_of node place (type.class number)) (class_led (declared_in env.scope) number gs) gs
wrong_index env place node of bounds gs =
    if may_index of bounds gs then no_term else wrong_arguments env place 25 type.variant (also (expression_of node place of)) gs

-- a member that is known before the run
abbrev pub member_takes : HostMember → List Given → Bool
member_takes m gs = takes_arguments m (length gs) && (not (has_names gs) || at m.greatest)
  where
    at : Option ℕ → Bool
    at None = true
    at (Some zero) = true
    at (Some greatest) = is_some (names_taken m gs)

-- the rule that other arguments break. Behind a member that takes none they index what it gives: a sheet, and what Rows and
-- Columns give, have no default member, S34
abbrev pub arguments_rule : HostMember → Option ℕ
arguments_rule m = at m.greatest
  where
    behind : Declared → Option ℕ
    behind type.worksheet = Some 34
    behind type.object = Some 34
    behind of = Some 25

    at : Option ℕ → Option ℕ
    at None = None
    at (Some zero) = behind m.of
    at (Some greatest) = Some 25

abbrev pub wrong_member : Env → Place → bound.Expr → HostMember → List Given → Term
wrong_member env place e m gs =
    if member_takes m gs then no_term else if_there (option_map (λ rule. wrong_arguments env place rule m.of (also e) gs) (arguments_rule m))

-- a procedure, or the value of a property that takes none
abbrev pub wrong_value : Env → Place → Term → List Given → Term
wrong_value env place (a_host_member e m) gs = wrong_member env place e m gs
wrong_value env place (a_value node of) gs = wrong_index env place node of 0 gs
wrong_value env place other gs = no_term

abbrev pub wrong_call : Env → Place → Option bound.Expr → Space → ℕ → Written → List Given → Term
wrong_call env place base space number p gs = if_there (option_map called_as (reader env.scope space number p))
  where
    called_as : ℕ × Written → Term
    called_as f =
        if indexes_value f.1 gs
        then node_or (call_value env base space f.0 f.1 (Some bound.no_args)) (λ node of. wrong_value env place (item_of env place (a_value node of)) gs)
        else if takes (parameters_in env.scope space f.1) gs then no_term
        else wrong_arguments env place 25 (call_type env.scope space f.1) (behind_base base) gs

-- what takes no arguments at all
abbrev pub wrong_some : Env → Place → List Given → Term
wrong_some env place [] = no_term
wrong_some env place gs = wrong_arguments env place 25 type.variant (λ es. es) gs

abbrev pub wrong_term : Env → Place → Term → List Given → Term
wrong_term env place (a_place x of bounds lends makes) gs = wrong_index env place (read_of makes x) of bounds gs
wrong_term env place (a_value node of) gs = wrong_index env place node of 0 gs
wrong_term env place (a_routine space number p) gs = wrong_call env place None space number p gs
wrong_term env place (a_method base space number p) gs = wrong_call env place (Some base) space number p gs
wrong_term env place (a_host_member e m) gs = wrong_member env place e m gs
wrong_term env place err_object gs = wrong_some env place gs
wrong_term env place err_clear gs = wrong_some env place gs
wrong_term env place other gs = no_term

-- what arguments in brackets make of a term, or what they break
abbrev pub indexed : Env → Place → Term → List Given → Term
indexed env place t gs = term_or (taken_by_term env place t gs) (wrong_term env place t gs)

-- ---- names

abbrev pub place_term : Storage → Declared → (bounds : ℕ) → Term
place_term storage of bounds = a_place (variable (record { storage = storage; of = of; bounded = not (bounds == 0) })) of bounds true false

abbrev pub declared_place : Storage → Option Declaration → Term
declared_place storage found = if_there (option_map (λ d. place_term storage d.of (length d.bounds)) found)

abbrev pub constant_term : Env → Identifier → Option Meant → Term
constant_term env x meant = if_there (option_map (λ k. a_value (constant k.value) k.of) (meant_by (names_in env.scope) env.scope x meant))

-- a variable by its declaration, and a parameter
abbrev pub variable_term : Scope → Storage → written.Variable → Term
variable_term s storage v = let d = declared_variable s v in declared_at s v (variable (record { storage = storage; of = d.of; bounded = has_bounds d })) true

abbrev pub parameter_term : Scope → Storage → written.Parameter → Term
parameter_term s storage p =
    let of = parameter_type s p in a_place (variable (record { storage = storage; of = of; bounded = false })) of 0 true (may_be_made s p)

abbrev pub own_term : Env → Identifier → ℕ → Local → Term
own_term env x number l = at l.own
  where
    storage : Storage
    storage = own_storage env.scope env.first number l.own

    at : Own → Term
    at (the_result p) = place_term storage (result_type env.scope p) 0
    at (a_parameter p) = parameter_term env.scope storage p
    at (a_local v static) = variable_term env.scope storage v
    at (a_local_constant c) = constant_term env x (Some (of_procedure number l))
    at own = declared_place storage (own_declaration env.scope l)

-- the object whose procedure this is
abbrev pub own_object : Env → bound.Expr
own_object env = expression_of this nowhere (own_class env.scope)

-- the variables and procedures of a class are those of the own object
abbrev pub entry_term : Env → Identifier → Space → ℕ → Entry → Term
entry_term env x space number e = if space.source.is_class then of_class e.what else at e.what
  where
    of_class : What → Term
    of_class (a_variable v) = variable_term (home env.scope space) (bound.own (field_number space number)) v
    of_class (a_constant c) = constant_term env x (Some (of_module space number e))
    of_class (a_member value steps) = constant_term env x (Some (of_module space number e))
    of_class (a_procedure p) = a_method (own_object env) space number p
    of_class what = no_term

    at : What → Term
    at (a_variable v) = variable_term (home env.scope space) (module_storage env.scope space number) v
    at (a_constant c) = constant_term env x (Some (of_module space number e))
    at (a_member value steps) = constant_term env x (Some (of_module space number e))
    at (a_procedure p) = a_routine space number p
    at what = no_term

-- from where the array counts that Array makes: no other function asks it
abbrev pub array_base : Env → LibraryFunction → ℕ
array_base env function.Array = base_of env.scope.here.source
array_base env f = 0

abbrev pub library_term : Env → Identifier → Term
library_term env x = if bytes_eq x.name (codes "error") then error_word else at (function_named x.name)
  where
    at : Option LibraryFunction → Term
    at (Some f) = a_function f (has_dollar x) (array_base env f)
    at None = constant_term env x (Some of_library)

-- the first sheet is the active one
abbrev pub sheet_term : Identifier → Term
sheet_term x = object_member nowhere nowhere active_sheet type.worksheet x.name

abbrev pub host_term : Identifier → Term
host_term x =
    if bytes_eq x.name (codes "err") then err_object
    else if bytes_eq x.name (codes "worksheets") || bytes_eq x.name (codes "sheets") then sheets_value
    else if bytes_eq x.name (codes "cells") || bytes_eq x.name (codes "range") then sheet_term x
    else if bytes_eq x.name (codes "activesheet") then a_value active_sheet type.worksheet
    else if bytes_eq x.name (codes "thisworkbook") || bytes_eq x.name (codes "activeworkbook") then a_value (host_object host.Workbook) type.object
    else if bytes_eq x.name (codes "application") then a_value (host_object host.Application) type.object
    else no_term

abbrev pub meant_term : Env → Identifier → Option Meant → Term
meant_term env x (Some (of_procedure number l)) = own_term env x number l
meant_term env x (Some (of_module space number e)) = entry_term env x space number e
meant_term env x (Some of_library) = library_term env x
meant_term env x (Some of_host) = host_term x
meant_term env x other = no_term

-- a name that is called or indexed: of a Function not its result
abbrev pub callee : Env → Expr → Term → Term
callee env (name x) t = meant_term env x (declares called env.scope x)
callee env e t = t

-- behind VBA an array that Array makes counts from 0
abbrev pub from_zero : Term → Term
from_zero (a_function f text_form base) = a_function f text_form 0
from_zero t = t

-- behind a module, an Enum or VBA, or else behind a term
abbrev pub behind_term : Env → Option Qualifier → Identifier → Term → Term
behind_term env None x t = t
behind_term env (Some q) x t = from_zero (meant_term env x (behind plainly env.scope q x))

-- ---- operators

abbrev pub result_of : OpKind → Declared → Declared → Declared
result_of o l r = unwrap_or (static_of o l r) type.variant

abbrev pub unary_term : OpKind → Option bound.Expr → Term
unary_term o operand = if_there (option_map (λ a. a_value (bound.unary o a) (result_of o (bound.operand_type a) (bound.operand_type a))) operand)

abbrev pub binary_term : Env → Option OpKind → Option bound.Expr → Option bound.Expr → Term
binary_term env kind left right =
    if_there (from_three (λ o a b. a_value (bound.binary o (compare_in env.scope) a b) (result_of o (bound.operand_type a) (bound.operand_type b))) kind left right)

-- Is: whether both are the same object ([MS-VBAL] 5.6.9.7)
abbrev pub same_term : (left right : Option bound.Expr) → Term
same_term left right = if_there (from_two (λ a b. a_value (bound.same a b) type.boolean) left right)

-- TypeOf: whether an object is one of a type ([MS-VBAL] 5.6.9.8)
abbrev pub typed_term : Option bound.Expr → Declared → Term
typed_term operand of = if_there (option_map (λ a. a_value (bound.is_type a of) type.boolean) operand)

-- a parenthesised expression is a value, and an object as it is
abbrev pub value_term : bound.Expr → Term
value_term (bound.expr node place of operand) = a_value node of

abbrev pub as_value : Env → Term → Place → Term
as_value env t place = if_there (option_map value_term (given_as env t place))

-- a new object of a class, or a new Collection
abbrev pub new_term : Declared → Term
new_term (type.class number) = a_value (new_object number) (type.class number)
new_term type.collection = a_value (new_object 0) type.collection
new_term other = no_term

abbrev pub literal_term : Val → Term
literal_term v = a_value (constant v) (value_type v)

abbrev mutual
  pub term_of : Env → Expr → Term
  term_of env (literal l) = literal_term (literal_meant l.value)
  term_of env (me token) = a_value this (own_class env.scope)
  term_of env (name x) = meant_term env x (declares plainly env.scope x)
  term_of env (with_member dot x) = kept_member env dot.place env.within x
  term_of env (member base dot x) = behind_term env (qualifier_of env.scope base) x (member_of env (place_told base) dot.place (term_of env base) x)
  term_of env (index base left args right) =
      indexed env (place_told base) (item_of env (place_told base) (callee env base (term_of env base))) (givens env args)
  term_of env (parenthesised left e right) = as_value env (term_of env e) (place_told e)
  term_of env (new new_word t) = new_term (meant_type (type_meant env.scope t))
  term_of env (type_of type_of_word e is_word t) = typed_term (given_as env (term_of env e) (place_told e)) (meant_type (type_meant env.scope t))
  term_of env (unary o token e) = unary_term (unary_kind o) (operand_of env (term_of env e) (place_told e))
  term_of env (binary l operator.Is token r) =
      same_term (reference_of env (term_of env l) (place_told l)) (reference_of env (term_of env r) (place_told r))
  term_of env (binary l o token r) =
      binary_term env (operator_kind o) (operand_of env (term_of env l) (place_told l)) (operand_of env (term_of env r) (place_told r))

  -- arguments
  pub givens : Env → Args → List Given
  givens env no_args = []
  givens env (missing before comma) = givens env before ++ record { name = None; term = None; place = nowhere } ∷ []
  givens env (plain before comma e) = givens env before ++ record { name = None; term = Some (term_of env e); place = place_told e } ∷ []
  givens env (tree.named before comma x mark e) = givens env before ++ record { name = Some x.name; term = Some (term_of env e); place = place_told e } ∷ []

-- an expression as a value, and as an operand
abbrev pub bound_value : Env → Expr → Option bound.Expr
bound_value env e = value_of env (term_of env e) (place_told e)

-- the same as a reference, and as it is
abbrev pub bound_reference : Env → Expr → Option bound.Expr
bound_reference env e = reference_of env (term_of env e) (place_told e)

abbrev pub bound_as_given : Env → Expr → Option bound.Expr
bound_as_given env e = given_as env (term_of env e) (place_told e)

abbrev pub bound_operand : Env → Expr → Option bound.Expr
bound_operand env e = operand_of env (term_of env e) (place_told e)
