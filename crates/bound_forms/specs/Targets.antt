-- What an assignment is to ([MS-VBAL] 5.4.3.8, 5.4.3.9): Let and Set.
use Rattle.std.specs.Prelude.{ℕ, ◌==◌, Bool, true, false, ◌&&◌, ◌||◌, not, bytes_eq, List, ◌∷◌, length, codes, Option, Some, None, is_some, option_map, option_and_then, if◌then◌else◌, []}
use Rattle.std.specs.List.{list_any}
use Rattle.vba_base.specs.declared.place.Place.{Place}
use Rattle.vba_values.specs.Types.{Declared}
use Rattle.vba_values.specs.Types as type
use Rattle.vba_expression.specs.Tree.{Expr, name, index}
use Rattle.vba_tree.specs.declared.procedure.ProcedureWords.{ProcedureWords}
use Rattle.vba_tree.specs.Tree.{value, assignment, call, end, nothing, one}
use Rattle.bound_project.specs.Expressions.{Node, constant, load, element_value, late_item, err_value, marked, Lvalue, variable, Exprs, no_exprs, also, method, item, element, field, element_along, value_place, field_value, host_object, host_member, named_member, late_member, active_sheet}
use Rattle.bound_project.specs.Expressions as bound
use Rattle.bound_project.specs.Statements.{Action}
use Rattle.bound_project.specs.Statements as to
use Rattle.bound_project.specs.Parameters.{last_type}
use Rattle.bound_project.specs.Project.{Parameter}
use Rattle.binder.specs.Options.{or_else, from_two}
use Rattle.binder.specs.Declarations.{Written, Own, a_parameter}
use Rattle.binder.specs.Scopes.{Space, plainly, Meant, of_procedure, declares}
use Rattle.binder.specs.Constants.{is_variant}
use Rattle.binder.specs.Storage.{procedure_number}
use Rattle.binder.specs.Types.{is_object}
use Rattle.bound_forms.specs.Terms.{Env, HostMember, Term, a_place, a_value, a_routine, a_host_member, err_object, err_raise, err_clear, error_word, no_term, expression_of, broken_rule, given_to, Given, bound_arguments, has_names, takes, given_by_name, a_method, read_of, routine_term, a_function}
use Rattle.binder.specs.Signatures.{is_property, writer, parameters_in, setter, reader, call_type}
use Rattle.binder.specs.Classes.{class_in}
use Rattle.bound_forms.specs.ClassDefaults.{Known, known, breaks, not_said, class_let, class_set, class_written, declared_in}
use Rattle.vba_tree.specs.declared.procedure.ProcedureWords.TheVariants as words
use Rattle.bound_forms.specs.Operands.{place_told, is_item_name, is_value_name, may_be_instance, is_of_class, is_found_late, bare_call, behind_base, read_alone, alone, given_as, HostKind, sheets, sheet, collection, host_kind, default_rule, has_object, argument_of}
use Rattle.bound_forms.specs.Members.{mark_members, item_of}
use Rattle.bound_forms.specs.ExpressionsBound.{variant_arguments, takes_arguments, late_arguments, is_called_late, member_called, indexes_value, member_takes, arguments_rule, indexed, callee, term_of, givens, bound_as_given, bound_operand}

-- S25: arguments that parameters don't take, each as a Variant takes it
abbrev pub untaken : Env → List Parameter → List Given → Option Exprs
untaken env ps gs = if takes ps gs then None else variant_arguments env gs

-- [Let] target = value

-- what breaks a rule as the target of an assignment, with the value and what the target is written with
abbrev pub broken_target : (rule : ℕ) → Place → (value : bound.Expr) → Exprs → Action
broken_target rule place v es = to.evaluate (broken_rule rule place (also v es))

-- a property of a standard module, or of an object, is given a value, or an object itself
abbrev pub property_given : (itself : Bool) → Option bound.Expr → (procedure : ℕ) → bound.Args → bound.Expr → Declared → Action
property_given false None q args v of = to.let_property q args v of
property_given true None q args v of = to.set_property q args v of
property_given false (Some base) q args v of = to.let_method base q args v of
property_given true (Some base) q args v of = to.set_method base q args v of

-- a property by the procedure that takes the value behind the other arguments
abbrev pub given_behind : (itself : Declared → Bool) → Env → Option bound.Expr → Place → Space → List Given → bound.Expr → ℕ × Written → Option Action
given_behind itself env base place space gs v f = at (parameters_in env.scope space f.1)
  where
    but_last : List Parameter → List Parameter
    but_last [] = []
    but_last (p ∷ []) = []
    but_last (p ∷ ps) = p ∷ but_last ps

    value_type : List Parameter → Declared
    value_type [] = type.variant
    value_type (p ∷ []) = p.of
    value_type (p ∷ ps) = value_type ps

    at : List Parameter → Option Action
    at ps =
        or_else
        (option_map (λ args. property_given (itself (value_type ps)) base (procedure_number env.scope space f.0) args v (value_type ps)) (bound_arguments (argument_of env) (but_last ps) gs))
        (option_map (λ es. broken_target 25 place v (behind_base base es)) (untaken env (but_last ps) gs))

-- a value parameter of an object type is given the object itself
abbrev pub let_to : Env → Option bound.Expr → Place → Space → List Given → bound.Expr → ℕ × Written → Option Action
let_to env base place space gs v f = given_behind is_object env base place space gs v f

-- the default member of an object is written: that of a range is Value, a sheet has none, and of a Variant the run decides
abbrev pub has_written_default : Declared → Bool
has_written_default type.range = true
has_written_default type.object = true
has_written_default type.variant = true
has_written_default other = false

-- the rule that such an assignment breaks before the run: Worksheets and a Collection have a default member that can't be
-- written, S27; the others without one are S34
abbrev pub write_rule : Option HostKind → Option ℕ
write_rule (Some sheets) = Some 27
write_rule (Some collection) = Some 27
write_rule kind = default_rule kind

-- of an Object or a Variant the run decides, and the default member of an object of a class may be written through others
abbrev pub written_through : Env → (target v : bound.Expr) → Action
written_through env target v = if may_be_instance env target then to.assign_through target v else to.assign_default target v

abbrev pub written_or_broken : Env → Option ℕ → Place → (target : bound.Expr) → Declared → bound.Expr → Option Action
written_or_broken env (Some rule) place target of v = Some (broken_target rule place v (also target no_exprs))
written_or_broken env None place target of v =
    if has_written_default of then Some (written_through env target v) else None

-- what is declared as of a class, whose default member is known before the run
abbrev pub class_written_or_broken : Env → Known → Place → (target v : bound.Expr) → Option Action
class_written_or_broken env (known of) place target v = Some (written_through env target v)
class_written_or_broken env (breaks rule) place target v = Some (broken_target rule place v (also target no_exprs))
class_written_or_broken env not_said place target v = None

abbrev pub default_written : Env → Place → Node → Declared → bound.Expr → Option Action
default_written env place node (type.class number) v =
    class_written_or_broken env (class_written (declared_in env.scope) number) place (expression_of node place (type.class number)) v
default_written env place node of v = written_or_broken env (write_rule (host_kind node of)) place (expression_of node place of) of v

-- a member of an object is written: one that can be, or the default member of the object that it gives, as of an item of
-- a Collection; of an object of an unknown kind the run decides
abbrev pub is_written_member : HostMember → Bool
is_written_member m =
    not (is_some m.greatest) || bytes_eq m.name (codes "value") || (is_object m.of && has_written_default m.of) || is_item_name m.name
    || list_any (λ (w : HostMember). bytes_eq m.name w.name) mark_members

-- arguments behind a member that takes none would index its value, of which nothing is kept
abbrev pub fits_written : HostMember → List Given → Bool
fits_written m [] = m.least == 0
fits_written m gs = takes_arguments m (length gs) && has_written_default m.of

-- where arguments have names the default member of what the member gives is written; Err.Raise gives nothing
abbrev pub named_written : Env → Place → bound.Expr → HostMember → List Given → bound.Expr → Option Action
named_written env place e m gs v =
    if bytes_eq m.name (codes "raise") || may_be_instance env v then None
    else option_map (λ node. to.assign_default (expression_of node place m.of) v) (member_called env e m gs)

-- a member that the run finds, and one whose value or arguments may be objects of classes
abbrev pub late_written : Env → bound.Expr → HostMember → List Given → bound.Expr → Option Action
late_written env e m gs v = from_two (λ by given. to.assign_late e m.name by given v) (given_by_name gs) (late_arguments env gs)

abbrev pub arguments_written : Env → Place → bound.Expr → HostMember → List Given → bound.Expr → Option Action
arguments_written env place e m gs v =
    if has_names gs && not m.late then named_written env place e m gs v
    else if may_be_instance env v || is_called_late env m gs then late_written env e m gs v
    else option_map (λ es. to.assign_member e m.name es v) (variant_arguments env gs)

-- the rule that an assignment to another member breaks: S27, but S34 where it gives a sheet, rows or columns; and before that
-- what its arguments break
abbrev pub unwritten_rule : Declared → Option ℕ
unwritten_rule type.worksheet = Some 34
unwritten_rule type.object = Some 34
unwritten_rule of = Some 27

abbrev pub written_rule : HostMember → List Given → Option ℕ
written_rule m [] = if not (m.least == 0) then Some 25 else if is_written_member m then None else unwritten_rule m.of
written_rule m gs =
    if not (member_takes m gs) then arguments_rule m else if is_written_member m && has_written_default m.of then None else unwritten_rule m.of

abbrev pub wrong_written : Env → Place → bound.Expr → (rule : Option ℕ) → List Given → bound.Expr → Option Action
wrong_written env place e rule gs v = from_two (λ r es. broken_target r place v (also e es)) rule (variant_arguments env gs)

abbrev pub member_written : Env → Place → bound.Expr → HostMember → List Given → bound.Expr → Option Action
member_written env place e m gs v =
    or_else (if is_written_member m && fits_written m gs then arguments_written env place e m gs v else None)
    (wrong_written env place e (written_rule m gs) gs v)

-- S27: a constant, what Err tells, a use of a function of the library, and what a Function gives that is no object, or a field
-- of it
abbrev pub is_unassignable : Node → Bool
is_unassignable (constant v) = true
is_unassignable (err_value m) = true
is_unassignable (bound.library f text_form es compare base) = true
is_unassignable (bound.call procedure args) = true
is_unassignable (method e procedure args) = true
is_unassignable (field_value e i) = true
is_unassignable (marked broken es) = true
is_unassignable node = false

abbrev pub not_assignable : Place → bound.Expr → Node → Declared → Action
not_assignable place v node of = broken_target 27 place v (also (expression_of node place of) no_exprs)

-- an item of a value that no variable has: of an array of objects the default member of the element is written, and else
-- the run decides whether there is an array or an object; of another value the default member is written. S27: Me
abbrev pub value_written : Env → Place → bound.Expr → Node → Declared → Option Action
value_written env place v (late_item e es) of = if is_of_class (bound.operand_type e) then None else Some (to.assign_element (value_place e) es v)
value_written env place v (element_value e es) of = if is_object of then default_written env place (element_value e es) of v else Some (to.assign_item e es v)
value_written env place v (bound.library f text_form es compare base) of = Some (not_assignable place v (bound.library f text_form es compare base) of)
value_written env place v bound.this of = Some (not_assignable place v bound.this of)
value_written env place v node of =
    if is_object of || has_object node of then default_written env place node of v
    else if is_unassignable node then Some (not_assignable place v node of)
    else None

-- a procedure is assigned to: a property by its Let; without a Let the default member of what a Function or a Get gives is
-- written. S27: a Sub gives nothing, nor does a property that has neither
abbrev pub is_sub_kind : ProcedureWords → Bool
is_sub_kind (words.Sub token) = true
is_sub_kind kind = false

abbrev pub property_assigned : Env → Option bound.Expr → Place → Space → List Given → bound.Expr → ℕ → Written → Option Action
property_assigned env base place space gs v number p = at (writer env.scope space p)
  where
    value_of_call : Term → Option Action
    value_of_call (a_value node of) = value_written env place v node of
    value_of_call t = None

    gives : Bool
    gives = not (is_sub_kind p.kind) && is_some (reader env.scope space number p)

    at : Option (ℕ × Written) → Option Action
    at (Some f) = let_to env base place space gs v f
    at None =
        if gives then value_of_call (indexed env place (routine_term base space number p) [])
        else Some (broken_target 27 place v (behind_base base no_exprs))

-- a value is assigned to a place, which holds no object: an element to which arguments lead takes it, or what they lead to does
abbrev pub place_assigned : Lvalue → bound.Expr → Action
place_assigned (element_along x es) v = to.assign_element x es v
place_assigned x v = to.assign x v

-- a value is assigned to what a term means
abbrev pub assigned : Env → Place → bound.Expr → List Given → Term → Option Action
assigned env place v gs (a_place x of bounds lends makes) = if is_object of then default_written env place (read_of makes x) of v else Some (place_assigned x v)
assigned env place v gs (a_routine space number p) = property_assigned env None place space gs v number p
assigned env place v gs (a_method base space number p) = property_assigned env (Some base) place space gs v number p
assigned env place v gs (a_host_member e m) = member_written env place e m gs v
assigned env place v gs (a_value node of) = value_written env place v node of
assigned env place v gs (a_function f text_form base) = value_assigned (alone env place (a_function f text_form base))
  where
    value_assigned : Term → Option Action
    value_assigned (a_value node of) = value_written env place v node of
    value_assigned t = None
assigned env place v gs err_object = Some (broken_target 27 place v no_exprs)
assigned env place v gs err_raise = Some (broken_target 27 place v no_exprs)
assigned env place v gs err_clear = Some (broken_target 27 place v no_exprs)
assigned env place v gs other = None

-- a property, and a member of an object of the host, take their arguments with the value
abbrev pub takes_value : Env → Term → Bool
takes_value env (a_routine space number p) = is_some (writer env.scope space p)
takes_value env (a_method base space number p) = is_some (writer env.scope space p)
takes_value env (a_host_member e m) = true
takes_value env t = false

-- arguments behind a property without parameters index what it gives, also in a target
abbrev pub value_before : Env → Place → List Given → Term → Term
value_before env place gs t = at t
  where
    gives : Option (ℕ × Written) → Bool
    gives None = false
    gives (Some f) = indexes_value f.1 gs

    property_value : Option bound.Expr → Space → ℕ → Written → Term
    property_value base space number p =
        if gives (reader env.scope space number p) then item_of env place (bare_call env base space number p) else routine_term base space number p

    at : Term → Term
    at (a_routine space number p) = property_value None space number p
    at (a_method base space number p) = property_value (Some base) space number p
    at other = item_of env place other

-- what an assignment with brackets at the end of its target is to, before their arguments
abbrev pub target_before : Env → Expr → List Given → Term
target_before env base gs = value_before env (place_told base) gs (callee env base (term_of env base))

-- S27: a Sub, and a ParamArray by its name
abbrev pub is_sub : Term → Bool
is_sub (a_routine space number p) = is_sub_kind p.kind
is_sub (a_method base space number p) = is_sub_kind p.kind
is_sub t = false

-- what a Sub is called of
abbrev pub sub_object : Term → Exprs
sub_object (a_method base space number p) = also base no_exprs
sub_object t = no_exprs

abbrev pub is_param_array : Env → Expr → Bool
is_param_array env (name x) = at (declares plainly env.scope x)
  where
    of_own : Own → Bool
    of_own (a_parameter p) = is_some p.param_array_word
    of_own own = false

    at : Option Meant → Bool
    at (Some (of_procedure number l)) = of_own l.own
    at meant = false
is_param_array env e = false

abbrev pub target_of_call : Env → Expr → Term
target_of_call env (index base left args right) = callee env base (term_of env base)
target_of_call env e = term_of env e

abbrev pub is_no_target : Env → Expr → Bool
is_no_target env e = is_sub (target_of_call env e) || is_param_array env e

-- an object of a class, by its class
abbrev pub class_of_term : Term → Option ℕ
class_of_term (a_place x of bounds lends makes) = class_in of
class_of_term (a_value node of) = class_in of
class_of_term t = None

-- what breaks a rule with its object and its arguments
abbrev pub broken_led : Env → (rule : ℕ) → Place → List Given → (object v : bound.Expr) → Option Action
broken_led env rule place gs object v = option_map (λ es. broken_target rule place v (also object es)) (variant_arguments env gs)

-- what arguments behind an object of a class lead to takes a value
abbrev pub element_assigned : Term → bound.Expr → Option Action
element_assigned (a_place x of bounds lends makes) v = Some (place_assigned x v)
element_assigned (a_value (late_item e es) of) v = Some (to.assign_element (value_place e) es v)
element_assigned t v = None

abbrev pub led_assigned : Env → Known → Place → Term → List Given → bound.Expr → Option Action
led_assigned env (known of) place t gs v = element_assigned (indexed env place t gs) v
led_assigned env (breaks rule) place t gs v = option_and_then (λ object. broken_led env rule place gs object v) (given_as env t place)
led_assigned env not_said place t gs v = None

abbrev pub index_assigned : Env → Place → Term → List Given → bound.Expr → Option Action
index_assigned env place t gs v = at (class_of_term t)
  where
    at : Option ℕ → Option Action
    at None = assigned env place v [] (indexed env place t gs)
    at (Some number) = led_assigned env (class_let (declared_in env.scope) number gs) place t gs v

abbrev pub written_to : Env → Expr → bound.Expr → Option Action
written_to env (index base left args right) v =
    let t = target_before env base (givens env args) in
    if takes_value env t then assigned env (place_told base) v (givens env args) t
    else index_assigned env (place_told base) t (givens env args) v
written_to env e v = assigned env (place_told e) v [] (term_of env e)

abbrev pub assigned_to : Env → Expr → bound.Expr → Option Action
assigned_to env e v = if is_no_target env e then Some (broken_target 27 (place_told e) v (sub_object (target_of_call env e))) else written_to env e v

-- what the value of an assignment is given to
abbrev pub target_term : Env → Expr → Term
target_term env (index base left args right) =
    let t = target_before env base (givens env args) in
    if takes_value env t then t else indexed env (place_told base) t (givens env args)
target_term env e = term_of env e

-- the type of the value that a property is given: that of its Let, or else of a default member
abbrev pub property_takes : Env → Space → Written → Declared
property_takes env space p = at (writer env.scope space p)
  where
    at : Option (ℕ × Written) → Declared
    at None = type.variant
    at (Some f) = last_type (parameters_in env.scope space f.1)

-- S27 and S30: a value of a Type, and an array, that the target doesn't take
abbrev pub given_to_term : Env → Term → Place → bound.Expr → bound.Expr
given_to_term env (a_place x of bounds lends makes) place v = given_to of (not (bounds == 0)) place v
given_to_term env (a_host_member e m) place v = given_to type.variant false place v
given_to_term env (a_routine space number p) place v = given_to (property_takes env space p) false place v
given_to_term env (a_method base space number p) place v = given_to (property_takes env space p) false place v
given_to_term env t place v = v

-- what arguments index as the run says: a Variant, and what may be an object of a class
abbrev pub is_indexed_late : Env → Place → Term → Bool
is_indexed_late env place (a_place x of bounds lends makes) = is_variant of || (is_of_class of || is_found_late env (expression_of (read_of makes x) place of))
is_indexed_late env place (a_value node of) = is_variant of || (is_of_class of || is_found_late env (expression_of node place of))
is_indexed_late env place t = false

-- the value of an assignment: where the target takes it with arguments, and for what arguments index in the run, an object
-- comes as it is
abbrev pub is_given_with : Env → Expr → Bool
is_given_with env (index base left args right) =
    let t = target_before env base (givens env args) in takes_value env t || is_indexed_late env (place_told base) t
is_given_with env e = takes_value env (term_of env e)

abbrev pub value_for : Env → Expr → Expr → Option bound.Expr
value_for env x e = if is_given_with env x then bound_as_given env e else bound_operand env e

abbrev pub value_given : Env → Expr → Expr → Option bound.Expr
value_given env x e = option_map (given_to_term env (target_term env x) (place_told e)) (value_for env x e)

-- S28: Set is of what may be an object, at its word
abbrev pub no_reference : (set_word : Place) → Exprs → Action
no_reference set_word es = to.evaluate (broken_rule 28 set_word es)

abbrev pub may_refer : Declared → Bool
may_refer of = is_object of || is_variant of

-- S27: Set to what can't be assigned to: the same, Me, the objects of the host that are always there, and what their members
-- give. What breaks a rule by itself is no target of another type than it has
abbrev pub is_unset : Node → Bool
is_unset bound.this = true
is_unset (host_object reference) = true
is_unset active_sheet = true
is_unset (host_member e member_name es) = not (is_value_name member_name)
is_unset (named_member e member_name by es) = not (is_value_name member_name)
is_unset (late_member e member_name by given) = not (is_value_name member_name)
is_unset node = is_unassignable node

abbrev pub set_node : (set_word place : Place) → Node → Declared → bound.Expr → Option Action
set_node set_word place (marked broken es) of v = Some (to.set_member (expression_of (marked broken es) set_word of) v)
set_node set_word place (late_item e es) of v = if is_of_class (bound.operand_type e) then None else Some (to.set_element (value_place e) es v)
set_node set_word place node of v = if is_unset node then Some (not_assignable place v node of) else None

abbrev pub set_value : (set_word place : Place) → Node → Declared → bound.Expr → Option Action
set_value set_word place node of v =
    if may_refer of then set_node set_word place node of v
    else Some (no_reference set_word (also v (also (expression_of node place of) no_exprs)))

abbrev pub set_alone : (set_word place : Place) → Term → bound.Expr → Option Action
set_alone set_word place (a_value node of) v = set_value set_word place node of v
set_alone set_word place other v = None

-- a place that is given a reference
abbrev pub place_set : Lvalue → bound.Expr → Action
place_set (element_along x es) v = to.set_element x es v
place_set x v = to.set x v

-- a property without a Set, and without arguments that index what it gives: it is one of the type that its Get gives, or
-- its Let takes
abbrev pub property_type : Env → Space → ℕ → Written → Declared
property_type env space number p = at (reader env.scope space number p)
  where
    at : Option (ℕ × Written) → Declared
    at None = property_takes env space p
    at (Some f) = call_type env.scope space f.1

abbrev pub property_unset : Env → (set_word place : Place) → Option bound.Expr → Space → ℕ → Written → bound.Expr → Option Action
property_unset env set_word place base space number p v =
    if may_refer (property_type env space number p) then Some (broken_target 27 place v (behind_base base no_exprs))
    else Some (no_reference set_word (also v (behind_base base no_exprs)))

-- a member of the host: the run finds that Value isn't set
abbrev pub member_unset : (set_word place : Place) → bound.Expr → HostMember → bound.Expr → Option Action
member_unset set_word place e m v =
    if not (is_some m.greatest) || is_value_name m.name then Some (to.set_member e v) else set_alone set_word place (read_alone place e m) v

-- Set: a variable of an object type, or a Variant, is given a reference; of a member that is found in the run the run
-- decides ([MS-VBAL] 5.4.3.9)
abbrev pub set_to : Env → (set_word place : Place) → Term → bound.Expr → Option Action
set_to env set_word place (a_place x of bounds lends makes) v =
    if may_refer of then Some (place_set x v) else Some (no_reference set_word (also v (also (expression_of (load x) set_word of) no_exprs)))
set_to env set_word place (a_host_member e m) v = member_unset set_word place e m v
set_to env set_word place (a_routine space number p) v = property_unset env set_word place None space number p v
set_to env set_word place (a_method base space number p) v = property_unset env set_word place (Some base) space number p v
set_to env set_word place no_term v = None
set_to env set_word place error_word v = None
set_to env set_word place err_object v = Some (broken_target 27 place v no_exprs)
set_to env set_word place err_raise v = Some (broken_target 27 place v no_exprs)
set_to env set_word place err_clear v = Some (broken_target 27 place v no_exprs)
set_to env set_word place t v = set_alone set_word place (alone env place t) v

-- the target of a Set that is no Set of a property: of a member with arguments the member itself, since none that takes Set
-- is found
abbrev pub set_target : Env → Expr → Term
set_target env (index base left args right) = at (target_before env base (givens env args))
  where
    at : Term → Term
    at (a_host_member e m) = if is_some m.greatest then indexed env (place_told base) (a_host_member e m) (givens env args) else a_host_member e m
    at (a_routine space number p) = if is_property p.kind then a_routine space number p else indexed env (place_told base) (a_routine space number p) (givens env args)
    at (a_method object space number p) = if is_property p.kind then a_method object space number p else indexed env (place_told base) (a_method object space number p) (givens env args)
    at t = indexed env (place_told base) t (givens env args)
set_target env e = at (term_of env e)
  where
    at : Term → Term
    at (a_routine space number p) = if is_property p.kind then a_routine space number p else alone env (place_told e) (a_routine space number p)
    at (a_method object space number p) = if is_property p.kind then a_method object space number p else alone env (place_told e) (a_method object space number p)
    at t = t

-- a property is given the object by its Set, and a member that the run finds
abbrev pub set_by : Env → Place → List Given → Term → bound.Expr → Option Action
set_by env place gs (a_routine space number p) v = option_and_then (given_behind (λ of. true) env None place space gs v) (setter env.scope space p)
set_by env place gs (a_method object space number p) v = option_and_then (given_behind (λ of. true) env (Some object) place space gs v) (setter env.scope space p)
set_by env place gs (a_host_member e m) v = if m.late then from_two (λ by given. to.set_late e m.name by given v) (given_by_name gs) (late_arguments env gs) else None
set_by env place gs t v = None

-- what arguments behind an object of a class lead to is given an object
abbrev pub element_given : Term → bound.Expr → Option Action
element_given (a_place x of bounds lends makes) v = Some (place_set x v)
element_given (a_value (late_item e es) of) v = Some (to.set_element (value_place e) es v)
element_given t v = None

abbrev pub led_set : Env → Known → Place → Term → List Given → bound.Expr → Option Action
led_set env (known of) place t gs v = element_given (indexed env place t gs) v
led_set env (breaks rule) place t gs v = option_and_then (λ object. broken_led env rule place gs object v) (given_as env t place)
led_set env not_said place t gs v = None

abbrev pub index_set : Env → (set_word : Place) → Expr → Expr → List Given → bound.Expr → Option Action
index_set env set_word base e gs v = at (class_of_term (target_before env base gs))
  where
    at : Option ℕ → Option Action
    at None = or_else (set_by env (place_told base) gs (target_before env base gs) v) (set_to env set_word (place_told base) (set_target env e) v)
    at (Some number) = led_set env (class_set (declared_in env.scope) number gs) (place_told base) (target_before env base gs) gs v

abbrev pub object_set : Env → (set_word : Place) → Expr → bound.Expr → Option Action
object_set env set_word (index base left args right) v = index_set env set_word base (index base left args right) (givens env args) v
object_set env set_word e v = or_else (set_by env (place_told e) [] (term_of env e) v) (set_to env set_word (place_told e) (set_target env e) v)

-- a value that can't be an object breaks S28, whatever its target is
abbrev pub set_given : Env → (set_word : Place) → Expr → bound.Expr → Option Action
set_given env set_word x v =
    if not (may_refer (bound.operand_type v)) then Some (no_reference set_word (also v no_exprs))
    else if is_sub (target_of_call env x) then Some (broken_target 27 (place_told x) v (sub_object (target_of_call env x)))
    else object_set env set_word x v
