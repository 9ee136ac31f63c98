-- Expressions by what they are: a place, a value, or a name of something else. What stands round an expression takes
-- from that what it needs. What the bound project can't say yet is no term.
use Rattle.std.specs.Prelude.{ℕ, suc, ◌==◌, Bool, true, false, ◌&&◌, ◌||◌, not, List, [], ◌∷◌, ◌++◌, map, Option, Some, None, is_some, option_map, option_and_then, bytes_eq, if◌then◌else◌}
use Rattle.std.specs.List.{list_all, list_any}
use Rattle.vba_base.specs.declared.place.Place.{Place}
use Rattle.vba_values.specs.Coerce.{is_same_type}
use Rattle.vba_values.specs.Types.{Declared}
use Rattle.vba_values.specs.Types as type
use Rattle.vba_lib.specs.declared.function.LibraryFunction.{LibraryFunction}
use Rattle.bound_project.specs.Expressions.{Node, not_given, load, host_member, late_member, none_given, marked, ByName, Lvalue, item, element_along, Exprs, no_exprs, also, load_made}
use Rattle.bound_project.specs.Expressions as bound
use Rattle.bound_project.specs.Project.{Parameter}
use Rattle.binder.specs.Options.{from_two}
use Rattle.binder.specs.Declarations.{Written}
use Rattle.binder.specs.Scopes.{Space, Scope}
use Rattle.binder.specs.Types.{is_object}
use Rattle.binder.specs.Constants.{is_variant}

-- the With block round an expression: its number, the type of what it keeps, and whether that is a place
pub record Within : Type 0 where
  pub header : ℕ
  pub of : Declared
  pub lends : Bool

-- where an expression stands: its scope, the first static of the procedure, and the With block round it
pub record Env : Type 0 where
  pub scope : Scope
  pub first : ℕ
  pub within : Option Within

-- a member of an object of the host: its folded name, the type of what it gives, the least number of its arguments and,
-- where it is known before the run, the greatest; and whether the run finds it, since the object may be one of a class
pub record HostMember : Type 0 where
  pub name : List ℕ
  pub of : Declared
  pub least : ℕ
  pub greatest : Option ℕ
  pub late : Bool

pub data Term : Type 0 where
  -- a place, with how many bounds it is declared as an array (0 without any), whether it is lent to a ByRef parameter, and
  -- whether an object is made there, or in an element of it, where that is read, as of a variable that is declared As New
  a_place : Lvalue → Declared → (bounds : ℕ) → (lends makes : Bool) → Term
  a_value : Node → Declared → Term
  -- a procedure or a property of a module, by an entry of it
  a_routine : Space → ℕ → Written → Term
  -- a procedure or a property of an object, by an entry of its class
  a_method : bound.Expr → Space → ℕ → Written → Term
  -- a function of the library: whether $ stands behind its name, and from where the array counts that Array makes
  a_function : LibraryFunction → (text_form : Bool) → (base : ℕ) → Term
  -- a member of an object of the host, which is neither read nor called yet
  a_host_member : bound.Expr → HostMember → Term
  err_object : Term
  err_raise : Term
  err_clear : Term
  -- Error, which raises an error
  error_word : Term
  no_term : Term

-- a procedure of a standard module, or of an object
abbrev pub routine_term : Option bound.Expr → Space → ℕ → Written → Term
routine_term None space number written = a_routine space number written
routine_term (Some base) space number written = a_method base space number written

-- ---- terms as values

abbrev pub expression_of : Node → Place → Declared → bound.Expr
expression_of node place of = bound.expr node place of of

-- what breaks a static rule, with the values that it is written with
abbrev pub broken_rule : (rule : ℕ) → Place → Exprs → bound.Expr
broken_rule rule place es = expression_of (marked (record { rule = rule; place = place }) es) place type.variant

abbrev pub broken_value : (rule : ℕ) → Place → Exprs → Term
broken_value rule place es = a_value (marked (record { rule = rule; place = place }) es) type.variant

-- the same of a call of what has a declared type. An object is none: it would give way to its default member's value
abbrev pub told_type : Declared → Declared
told_type of = if is_object of then type.variant else of

abbrev pub broken_call : (rule : ℕ) → Place → Declared → Exprs → Term
broken_call rule place of es = a_value (marked (record { rule = rule; place = place }) es) (told_type of)

-- a value of an object type is none: it is taken as a reference, or gives way to its default member's value
abbrev pub typed_value : Node → Place → Declared → Option bound.Expr
typed_value node place of = if is_object of then None else Some (expression_of node place of)

-- what a place has
abbrev pub read_of : (makes : Bool) → Lvalue → Node
read_of makes x = if makes then load_made x else load x

-- no argument is named
abbrev pub no_names : ByName
no_names = record { before = 0; names = [] }

-- a member that is read without arguments
abbrev pub member_read : bound.Expr → HostMember → Node
member_read e m = if m.late then late_member e m.name no_names none_given else host_member e m.name no_exprs

-- what a place has, and a value, as what its type says
abbrev pub read_as : (Node → Place → Declared → Option bound.Expr) → Term → Place → Option bound.Expr
read_as typed (a_place x of bounds lends makes) place = typed (read_of makes x) place of
read_as typed (a_value node of) place = typed node place of
read_as typed other place = None

-- ---- arguments ([MS-VBAL] 5.6.13.1)

-- a value of a Type, which that Type alone takes, and an array, which an array of the same elements takes that has no bounds
-- of its own
abbrev pub is_user_type : Declared → Bool
is_user_type (type.udt number) = true
is_user_type other = false

abbrev pub is_other_array : (of : Declared) → (bounded : Bool) → (given : Declared) → Bool
is_other_array (type.array_of of) bounded (type.array_of given) = bounded || not (is_same_type of given)
is_other_array of bounded given = false

-- the rule that is broken where a value of a type is given to what has a type: S27 and S30
abbrev pub given_rule : (of : Declared) → (bounded : Bool) → (given : Declared) → Option ℕ
given_rule of bounded given =
    if is_user_type given && not (is_same_type of given) then Some 27
    else if is_other_array of bounded given then Some 30
    else None

-- a value that is given, marked where that breaks a rule
abbrev pub unless_broken : Option ℕ → Place → bound.Expr → bound.Expr
unless_broken None place e = e
unless_broken (Some rule) place e = broken_rule rule place (also e no_exprs)

abbrev pub given_to : (of : Declared) → (bounded : Bool) → Place → bound.Expr → bound.Expr
given_to of bounded place e = unless_broken (given_rule of bounded (bound.operand_type e)) place e

-- an argument: its name where it is named, and what is given
pub record Given : Type 0 where
  pub name : Option (List ℕ)
  pub term : Option Term
  pub place : Place

-- what an argument adds to those behind it, for the parameter with this number
pub record Item : Type 0 where
  pub parameter : ℕ
  pub add : bound.Args → Option bound.Args

-- the way in which a parameter takes what is given: a variable of its own type by its place, unless it is ByVal; a
-- Variant takes one of any type, and an Object one of any object type. What is given is bound for the parameter's type
abbrev pub by_copy : (Declared → Term → Place → Option bound.Expr) → Parameter → Term → Place → bound.Args → Option bound.Args
by_copy value p t place rest = option_map (λ e. bound.by_copy e p.of rest) (value p.of t place)

abbrev pub is_lent_to : (of parameter : Declared) → Bool
is_lent_to of parameter =
    (is_variant parameter && not (is_user_type of)) || (is_same_type of parameter || (is_object of && is_same_type type.object parameter))

-- an element of a Variant, which may be the item of an object, and so no variable
abbrev pub may_be_item : Lvalue → Bool
may_be_item (item x es) = is_variant x.of
may_be_item (element_along x es) = true
may_be_item x = false

-- what is copied though it is a variable: one of another object type, and what may be none
abbrev pub is_copied_to : Lvalue → (of parameter : Declared) → Bool
is_copied_to x of parameter = (is_object of && is_object parameter) || may_be_item x

-- S26: a variable of another type than the one that a ByRef parameter takes; for a Variant it is one of a Type, S27
abbrev pub other_rule : (parameter : Declared) → ℕ
other_rule type.variant = 27
other_rule parameter = 26

abbrev pub of_other_type : Lvalue → (of parameter : Declared) → Place → bound.Expr
of_other_type x of parameter place = broken_rule (other_rule parameter) place (also (expression_of (load x) place of) no_exprs)

abbrev pub by_reference : (Declared → Term → Place → Option bound.Expr) → Parameter → Term → Place → bound.Args → Option bound.Args
by_reference value p (a_place x of bounds true makes) place rest =
    if is_lent_to of p.of then Some (bound.by_place x rest)
    else if is_copied_to x of p.of then by_copy value p (a_place x of bounds true makes) place rest
    else Some (bound.by_copy (of_other_type x of p.of place) p.of rest)
by_reference value p t place rest = by_copy value p t place rest

abbrev pub not_given_to : Parameter → bound.Args → Option bound.Args
not_given_to p rest = if p.many then Some (bound.by_list no_exprs rest) else option_map (λ v. bound.by_default v rest) p.default

abbrev pub taken_by : (Declared → Term → Place → Option bound.Expr) → Parameter → Given → bound.Args → Option bound.Args
taken_by value p g rest = at g.term
  where
    at : Option Term → Option bound.Args
    at None = not_given_to p rest
    at (Some t) = if p.by_reference then by_reference value p t g.place rest else by_copy value p t g.place rest

-- the values of a ParamArray; one that isn't written is Missing
abbrev pub listed_values : (Term → Place → Option bound.Expr) → List Given → Option Exprs
listed_values value [] = Some no_exprs
listed_values value (g ∷ gs) = from_two also (at g.term) (listed_values value gs)
  where
    at : Option Term → Option bound.Expr
    at None = Some (expression_of not_given g.place type.variant)
    at (Some t) = value t g.place

-- the parameter with a name, from a number on; a ParamArray has none
abbrev pub parameter_named : ℕ → List Parameter → List ℕ → Option (ℕ × Parameter)
parameter_named number [] fold = None
parameter_named number (p ∷ ps) fold = if not p.many && bytes_eq p.name.fold fold then Some (number, p) else parameter_named (suc number) ps fold

abbrev pub cons_if : Option Item → Option (List Item) → Option (List Item)
cons_if i is = from_two (λ x xs. x ∷ xs) i is

abbrev pub named_item : (Declared → Term → Place → Option bound.Expr) → Given → Option (ℕ × Parameter) → Option Item
named_item value g found = option_map (λ f. record { parameter = f.0; add = taken_by value f.1 g }) found

-- arguments with names, for the parameters from a number on
abbrev pub by_names : (Declared → Term → Place → Option bound.Expr) → ℕ → List Parameter → List Given → Option (List Item)
by_names value number ps [] = Some []
by_names value number ps (g ∷ gs) = cons_if (option_and_then (λ fold. named_item value g (parameter_named number ps fold)) g.name) (by_names value number ps gs)

abbrev pub has_names : List Given → Bool
has_names gs = list_any (λ (g : Given). is_some g.name) gs

-- arguments from the left, until one has a name; none of the values of a ParamArray has one
abbrev pub by_position : (Declared → Term → Place → Option bound.Expr) → ℕ → List Parameter → List Given → Option (List Item)
by_position value number ps [] = Some []
by_position value number [] (g ∷ gs) = None
by_position value number (p ∷ ps) (g ∷ gs) =
    if is_some g.name then by_names value number (p ∷ ps) (g ∷ gs)
    else if p.many then
    if has_names (g ∷ gs) then None
    else option_map (λ es. record { parameter = number; add = λ rest. Some (bound.by_list es rest) } ∷ []) (listed_values (value type.variant) (g ∷ gs))
    else cons_if (Some (record { parameter = number; add = taken_by value p g })) (by_position value (suc number) ps gs)

-- the parameters to which nothing is given
abbrev pub left_over : ℕ → List Parameter → List Item → List Item
left_over number [] is = []
left_over number (p ∷ ps) is =
    if list_any (λ (i : Item). i.parameter == number) is then left_over (suc number) ps is
    else record { parameter = number; add = not_given_to p } ∷ left_over (suc number) ps is

abbrev pub built : List Item → Option bound.Args
built [] = Some bound.no_args
built (i ∷ is) = option_and_then i.add (built is)

-- at which place a parameter's argument is evaluated
abbrev pub place_among : ℕ → List Item → ℕ
place_among number [] = 0
place_among number (i ∷ is) = if i.parameter == number then 0 else suc (place_among number is)

abbrev pub order_from : ℕ → List Parameter → List Item → List ℕ
order_from number [] is = []
order_from number (p ∷ ps) is = place_among number is ∷ order_from (suc number) ps is

-- no two are for one parameter
abbrev pub are_apart : List Item → Bool
are_apart [] = true
are_apart (i ∷ is) = not (list_any (λ (j : Item). j.parameter == i.parameter) is) && are_apart is

-- S25: a parameter that may be given nothing, and the parameters that are left behind the one with a name
abbrev pub may_lack : Parameter → Bool
may_lack p = p.many || is_some p.default

abbrev pub all_but : List Parameter → List ℕ → Option (List Parameter)
all_but [] fold = None
all_but (p ∷ ps) fold = if not p.many && bytes_eq p.name.fold fold then Some ps else option_map (λ others. p ∷ others) (all_but ps fold)

-- whether parameters take arguments that all have names: each has a parameter of its own, and no other one lacks what it
-- needs
abbrev pub takes_named : Option (List Parameter) → List Given → Bool
takes_named None gs = false
takes_named (Some ps) [] = list_all may_lack ps
takes_named (Some ps) (g ∷ gs) = takes_named (option_and_then (all_but ps) g.name) gs

-- the same of arguments from the left, until one has a name; what isn't written is nothing that is given
abbrev pub takes : List Parameter → List Given → Bool
takes ps [] = list_all may_lack ps
takes [] (g ∷ gs) = false
takes (p ∷ ps) (g ∷ gs) =
    if is_some g.name then takes_named (Some (p ∷ ps)) (g ∷ gs)
    else if p.many then not (has_names (g ∷ gs))
    else (is_some g.term || may_lack p) && takes ps gs

-- the names of arguments that all have one
abbrev pub all_named : List (Option (List ℕ)) → Option (List (List ℕ))
all_named [] = Some []
all_named (name ∷ names) = from_two (λ x xs. x ∷ xs) name (all_named names)

-- how arguments are given: from the first one with a name on each has one
abbrev pub by_name_from : (before : ℕ) → List (Option (List ℕ)) → Option ByName
by_name_from before (None ∷ names) = by_name_from (suc before) names
by_name_from before names = option_map (λ xs. record { before = before; names = xs }) (all_named names)

abbrev pub given_by_name : List Given → Option ByName
given_by_name gs = by_name_from 0 (map (λ (g : Given). g.name) gs)

-- the arguments of a call, first those that are written, in their order
abbrev pub bound_arguments : (Declared → Term → Place → Option bound.Expr) → List Parameter → List Given → Option bound.Args
bound_arguments value ps gs = option_and_then with_rest (by_position value 0 ps gs)
  where
    ordered : List Item → bound.Args → bound.Args
    ordered all args = if has_names gs then bound.in_order (order_from 0 ps all) args else args

    with_all : List Item → Option bound.Args
    with_all all = option_map (ordered all) (built all)

    with_rest : List Item → Option bound.Args
    with_rest is = if are_apart is then with_all (is ++ left_over 0 ps is) else None
