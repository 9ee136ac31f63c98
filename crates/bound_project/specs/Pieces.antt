-- Serves the code: the trees that nodes in postfix order stand for. Reading a node takes the pieces that it ends off a
-- stack and puts one piece there. Where the pieces don't fit, one piece is left that fits nowhere.
use Rattle.std.specs.Prelude.{ℕ, zero, suc, ◌==◌, Bool, true, false, not, ◌&&◌, if◌then◌else◌, bytes_eq, List, [], ◌∷◌, map, Option, Some, None, option_map, slice_index_or}
use Rattle.vba_base.specs.declared.place.Place.{Place}
use Rattle.vba_values.specs.declared.types.OpKind.{OpKind}
use Rattle.vba_values.specs.Types.{Declared}
use Rattle.vba_values.specs.Val.{Val, empty, text}
use Rattle.bound_project.specs.declared.declared_type.DeclaredType.{DeclaredType}
use Rattle.bound_project.specs.declared.node.NodeKind.{NodeKind}
use Rattle.bound_project.specs.declared.node.NodeKind.TheVariants as node
use Rattle.bound_project.specs.declared.node.Node.{Node}
use Rattle.bound_project.specs.declared.node.ArgumentNames.{ArgumentNames}
use Rattle.bound_project.specs.declared.node.LateName.{LateName}
use Rattle.bound_project.specs.declared.node.LateUse.{LateUse}
use Rattle.bound_project.specs.declared.node.LateUse.TheVariants.{Reading, Assigning, Setting}
use Rattle.bound_project.specs.Expressions.{Expr, expr, not_given, constant, load, element_value, field_value, unary, binary, call, err_value, default_of, default_if_any, enumerated, same, is_type, library, bound_of, host_object, active_sheet, host_member, load_made, this, new_object, method, named_member, late_member, late_item, ByName, Lvalue, variable, item, element, field, kept_place, object_field, as_new, element_along, late_field, value_place, Args, no_args, by_place, by_copy, by_default, by_list, in_order, Given, none_given, place_given, expr_given, Exprs, no_exprs, also, given_count, Prints, shown, zone, marked}
use Rattle.bound_project.specs.Expressions as plain
use Rattle.bound_project.specs.Statements.{Tests, test_is, test_range, Resizes, resize, Arrays, an_array}
use Rattle.bound_project.specs.View.{declared_view, variable_view, member_view, base_view}

-- an argument by itself
pub data Argument : Type 0 where
  place_lent : Lvalue → Argument
  value_copied : Expr → Declared → Argument
  default_taken : Val → Argument
  values_listed : Exprs → Argument

-- an argument of a late-bound member by itself
pub data GivenArgument : Type 0 where
  place_there : Lvalue → GivenArgument
  value_there : Expr → GivenArgument

-- what a late-bound member is looked up by: what is done with it, its folded name, how its arguments are named, and which
-- of them are given
pub record Sought : Type 0 where
  pub aim : LateUse
  pub name : List ℕ
  pub by : ByName
  pub given : List Bool

pub data Piece : Type 0 where
  -- what fits nowhere
  nothing : Piece
  an_expr : Expr → Piece
  a_place : Lvalue → Piece
  an_argument : Argument → Piece
  -- an object, the folded name of its member, and how many arguments are given
  a_member : Expr → (name : List ℕ) → (given : ℕ) → Piece
  -- the same with how arguments are named
  a_named_member : Expr → (name : List ℕ) → ByName → (given : ℕ) → Piece
  -- an object whose late-bound member was looked up, and the argument of this number of one
  a_late : Expr → Sought → Piece
  a_given : GivenArgument → Sought → (argument : ℕ) → Piece
  -- an object whose procedure is called
  an_object : Expr → Piece
  a_value_shown : Expr → Piece
  a_zone : Piece
  a_test_begun : Piece
  a_test_is : OpKind → Place → Expr → Piece
  a_test_range : (low high : Expr) → (low_at high_at : Place) → Piece
  a_resize : Lvalue → Exprs → Option Declared → Piece
  an_erased : Lvalue → Piece

-- the constants and orders of a project, which nodes name by their numbers
pub record Tables : Type 0 where
  pub constants : List Val
  pub orders : List (List ℕ)

abbrev pub constant_in : Tables → ℕ → Val
constant_in t i = slice_index_or t.constants i empty

abbrev pub order_in : Tables → ℕ → List ℕ
order_in t i = slice_index_or t.orders i []

-- the name that a text constant is
abbrev pub name_of : Val → List ℕ
name_of (text units) = units
name_of v = []

abbrev pub name_in : Tables → ℕ → List ℕ
name_in t i = name_of (constant_in t i)

-- the names that constants are, by their order, and how arguments are named
abbrev pub names_in : Tables → ℕ → List (List ℕ)
names_in t i = map (name_in t) (order_in t i)

abbrev pub by_name_in : Tables → ArgumentNames → ByName
by_name_in t by = record { before = by.before; names = names_in t by.order }

-- which of so many arguments are given, by an order: 0 stands for one that isn't, and those past its end are
abbrev pub flags : ℕ → List ℕ → List Bool
flags zero ks = []
flags (suc n) [] = true ∷ flags n []
flags (suc n) (k ∷ ks) = not (k == 0) ∷ flags n ks

abbrev pub flags_in : Tables → LateName → List Bool
flags_in t m = flags m.arguments (order_in t m.given)

abbrev pub sought_in : Tables → LateUse → LateName → Sought
sought_in t aim m = record { aim = aim; name = name_in t m.name; by = by_name_in t m.names; given = flags_in t m }

-- what is left where pieces don't fit
abbrev pub misfit : List Piece
misfit = nothing ∷ []

-- so many values off the stack, the last one first, before others
abbrev pub exprs_off : ℕ → List Piece → Exprs → Option (Exprs × List Piece)
exprs_off zero st es = Some (es, st)
exprs_off (suc n) (an_expr e ∷ st) es = exprs_off n st (also e es)
exprs_off (suc n) st es = None

abbrev pub with_argument : Argument → Args → Args
with_argument (place_lent x) args = by_place x args
with_argument (value_copied e of) args = by_copy e of args
with_argument (default_taken v) args = by_default v args
with_argument (values_listed es) args = by_list es args

-- so many arguments off the stack
abbrev pub arguments_off : ℕ → List Piece → Args → Option (Args × List Piece)
arguments_off zero st args = Some (args, st)
arguments_off (suc n) (an_argument a ∷ st) args = arguments_off n st (with_argument a args)
arguments_off (suc n) st args = None

-- both late-bound members are looked up by the same
abbrev pub same_names : List (List ℕ) → List (List ℕ) → Bool
same_names [] [] = true
same_names (x ∷ xs) (y ∷ ys) = bytes_eq x y && same_names xs ys
same_names xs ys = false

abbrev pub same_by_name : ByName → ByName → Bool
same_by_name a b = (a.before == b.before) && same_names a.names b.names

abbrev pub same_use : LateUse → LateUse → Bool
same_use Reading Reading = true
same_use Assigning Assigning = true
same_use Setting Setting = true
same_use a b = false

abbrev pub same_flags : List Bool → List Bool → Bool
same_flags [] [] = true
same_flags (true ∷ xs) (true ∷ ys) = same_flags xs ys
same_flags (false ∷ xs) (false ∷ ys) = same_flags xs ys
same_flags xs ys = false

abbrev pub same_sought : Sought → Sought → Bool
same_sought a b = same_use a.aim b.aim && (bytes_eq a.name b.name && (same_by_name a.by b.by && same_flags a.given b.given))

abbrev pub with_given : GivenArgument → Given → Given
with_given (place_there x) given = place_given x given
with_given (value_there e) given = expr_given e given

-- so many arguments of a late-bound member off the stack, which were looked up as it is, each by its number
abbrev pub given_off : Sought → ℕ → List Piece → Given → Option (Given × List Piece)
given_off s zero st given = Some (given, st)
given_off s (suc n) (a_given a other i ∷ st) given = if same_sought s other && (i == n) then given_off s n st (with_given a given) else None
given_off s (suc n) st given = None

-- which arguments are given
abbrev pub is_there : Expr → Bool
is_there (expr not_given place of operand) = false
is_there e = true

abbrev pub which_there : Given → List Bool
which_there none_given = []
which_there (place_given x given) = true ∷ which_there given
which_there (expr_given e given) = is_there e ∷ which_there given

-- so many items of Debug.Print off the stack
abbrev pub prints_off : ℕ → List Piece → Prints → Option (Prints × List Piece)
prints_off zero st ps = Some (ps, st)
prints_off (suc n) (a_value_shown e ∷ st) ps = prints_off n st (shown e ps)
prints_off (suc n) (a_zone ∷ st) ps = prints_off n st (zone ps)
prints_off (suc n) st ps = None

-- so many tests of a Case off the stack
abbrev pub tests_off : ℕ → List Piece → Tests → Option (Tests × List Piece)
tests_off zero st ts = Some (ts, st)
tests_off (suc n) (a_test_is o at e ∷ st) ts = tests_off n st (test_is o at e ts)
tests_off (suc n) (a_test_range low high low_at high_at ∷ st) ts = tests_off n st (test_range low high low_at high_at ts)
tests_off (suc n) st ts = None

-- so many arrays of a ReDim, and of an Erase, off the stack
abbrev pub resizes_off : ℕ → List Piece → Resizes → Option (Resizes × List Piece)
resizes_off zero st rs = Some (rs, st)
resizes_off (suc n) (a_resize x bounds of ∷ st) rs = resizes_off n st (resize x bounds of rs)
resizes_off (suc n) st rs = None

abbrev pub arrays_off : ℕ → List Piece → Arrays → Option (Arrays × List Piece)
arrays_off zero st xs = Some (xs, st)
arrays_off (suc n) (an_erased x ∷ st) xs = arrays_off n st (an_array x xs)
arrays_off (suc n) st xs = None

-- ---- the piece that is made of one value, of a place, of two values

abbrev pub of_value : (Expr → Piece) → List Piece → List Piece
of_value make (an_expr e ∷ st) = make e ∷ st
of_value make st = misfit

abbrev pub of_place : (Lvalue → Piece) → List Piece → List Piece
of_place make (a_place x ∷ st) = make x ∷ st
of_place make st = misfit

abbrev pub of_both : (Expr → Expr → Piece) → List Piece → List Piece
of_both make (an_expr b ∷ an_expr a ∷ st) = make a b ∷ st
of_both make st = misfit

-- of the value, and of the two values, of a test that was begun
abbrev pub of_test : (Expr → Piece) → List Piece → List Piece
of_test make (an_expr e ∷ a_test_begun ∷ st) = make e ∷ st
of_test make st = misfit

abbrev pub of_range : (Expr → Expr → Piece) → List Piece → List Piece
of_range make (an_expr b ∷ an_expr a ∷ a_test_begun ∷ st) = make a b ∷ st
of_range make st = misfit

-- of values or arguments that were found, and of a place or value before them
abbrev pub of_found : {A : Type 0} → (A → Piece) → Option (A × List Piece) → List Piece
of_found make None = misfit
of_found make (Some found) = make found.0 ∷ found.1

abbrev pub of_place_found : (Lvalue → Exprs → Piece) → Option (Exprs × List Piece) → List Piece
of_place_found make None = misfit
of_place_found make (Some found) = of_place (λ x. make x found.0) found.1

abbrev pub of_value_found : (Expr → Exprs → Piece) → Option (Exprs × List Piece) → List Piece
of_value_found make None = misfit
of_value_found make (Some found) = of_value (λ e. make e found.0) found.1

-- a member that was looked for is the one of this name, with these arguments
abbrev pub is_member : (name other : List ℕ) → (given : ℕ) → Exprs → Bool
is_member name other given es = bytes_eq name other && (given == given_count es)

abbrev pub of_member : (name : List ℕ) → (Expr → Exprs → Piece) → Exprs → List Piece → List Piece
of_member name make es (a_member e other given ∷ st) = if is_member name other given es then make e es ∷ st else misfit
of_member name make es st = misfit

abbrev pub of_member_found : (name : List ℕ) → (Expr → Exprs → Piece) → Option (Exprs × List Piece) → List Piece
of_member_found name make None = misfit
of_member_found name make (Some found) = of_member name make found.0 found.1

-- the same where arguments are named, and that they are named so
abbrev pub is_named_member : (name other : List ℕ) → (by how : ByName) → (given : ℕ) → Exprs → Bool
is_named_member name other by how given es = is_member name other given es && same_by_name by how

abbrev pub of_named : (name : List ℕ) → ByName → (Expr → Exprs → Piece) → Exprs → List Piece → List Piece
of_named name by make es (a_named_member e other how given ∷ st) = if is_named_member name other by how given es then make e es ∷ st else misfit
of_named name by make es st = misfit

abbrev pub of_named_found : (name : List ℕ) → ByName → (Expr → Exprs → Piece) → Option (Exprs × List Piece) → List Piece
of_named_found name by make None = misfit
of_named_found name by make (Some found) = of_named name by make found.0 found.1

-- the arguments of a procedure of an object
abbrev pub of_object : (Expr → Args → Piece) → Args → List Piece → List Piece
of_object make args (an_object e ∷ st) = make e args ∷ st
of_object make args st = misfit

abbrev pub of_object_found : (Expr → Args → Piece) → Option (Args × List Piece) → List Piece
of_object_found make None = misfit
of_object_found make (Some found) = of_object make found.0 found.1

-- a late-bound member, with these arguments
abbrev pub is_late : (s other : Sought) → Given → Bool
is_late s other given = same_sought s other && same_flags s.given (which_there given)

abbrev pub of_late : Sought → (Expr → Given → Piece) → Given → List Piece → List Piece
of_late s make given (a_late e other ∷ st) = if is_late s other given then make e given ∷ st else misfit
of_late s make given st = misfit

abbrev pub of_late_found : Sought → (Expr → Given → Piece) → Option (Given × List Piece) → List Piece
of_late_found s make None = misfit
of_late_found s make (Some found) = of_late s make found.0 found.1

-- ---- what a node makes of the pieces before it

-- the expression that a node is
abbrev pub expr_of : Node → plain.Node → Piece
expr_of n made = an_expr (expr made n.place (declared_view n.of) (declared_view n.operand))

-- an operand has the type that its operator says
abbrev pub as_operand : DeclaredType → Expr → Expr
as_operand of (expr node place written operand) = expr node place written (declared_view of)

-- a late-bound member that is read or called, behind so many arguments
abbrev pub late_put : Node → Sought → ℕ → List Piece → List Piece
late_put n s count st = of_late_found s (λ e given. expr_of n (late_member e s.name s.by given)) (given_off s count st none_given)

abbrev pub put_kind : Tables → Node → NodeKind → List Piece → List Piece
put_kind t n node.NotGiven st = expr_of n not_given ∷ st
put_kind t n (node.Constant i) st = expr_of n (constant (constant_in t i)) ∷ st
put_kind t n (node.Variable x) st = a_place (variable (variable_view x)) ∷ st
put_kind t n (node.Item x count) st = of_found (λ es. a_place (item (variable_view x) es)) (exprs_off count st no_exprs)
put_kind t n (node.Element count) st = of_place_found (λ x es. a_place (element x es)) (exprs_off count st no_exprs)
put_kind t n (node.Field i of bounded) st = of_place (λ x. a_place (field x i (declared_view of) bounded)) st
put_kind t n (node.KeptPlace header) st = a_place (kept_place header) ∷ st
put_kind t n (node.ObjectField i of bounded) st = of_value (λ e. a_place (object_field e i (declared_view of) bounded)) st
put_kind t n (node.NewVariable x c) st = a_place (as_new c (variable (variable_view x))) ∷ st
put_kind t n (node.AsNew c) st = of_place (λ x. a_place (as_new c x)) st
put_kind t n (node.ElementAlong count) st = of_place_found (λ x es. a_place (element_along x es)) (exprs_off count st no_exprs)
put_kind t n (node.LateField i) st = of_value (λ e. a_place (late_field e (name_in t i))) st
put_kind t n node.PlaceOf st = of_value (λ e. a_place (value_place e)) st
put_kind t n node.Load st = of_place (λ x. expr_of n (load x)) st
put_kind t n node.LoadMade st = of_place (λ x. expr_of n (load_made x)) st
put_kind t n (node.ElementValue count) st = of_value_found (λ e es. expr_of n (element_value e es)) (exprs_off count st no_exprs)
put_kind t n (node.FieldValue i) st = of_value (λ e. expr_of n (field_value e i)) st
put_kind t n (node.Unary o of) st = of_value (λ a. expr_of n (unary o (as_operand of a))) st
put_kind t n (node.Binary o compare left right) st = of_both (λ a b. expr_of n (binary o compare (as_operand left a) (as_operand right b))) st
put_kind t n (node.Call p count) st = of_found (λ args. expr_of n (call p args)) (arguments_off count st no_args)
put_kind t n (node.CallInOrder p count order) st = of_found (λ args. expr_of n (call p (in_order (order_in t order) args))) (arguments_off count st no_args)
put_kind t n node.This st = expr_of n this ∷ st
put_kind t n (node.NewObject c) st = expr_of n (new_object c) ∷ st
put_kind t n node.ObjectThere st = of_value (λ e. an_object e) st
put_kind t n (node.Method p count) st = of_object_found (λ e args. expr_of n (method e p args)) (arguments_off count st no_args)
put_kind t n (node.MethodInOrder p count order) st = of_object_found (λ e args. expr_of n (method e p (in_order (order_in t order) args))) (arguments_off count st no_args)
put_kind t n (node.ErrValue member) st = expr_of n (err_value (member_view member)) ∷ st
put_kind t n (node.Marked broken count) st = of_found (λ es. expr_of n (marked broken es)) (exprs_off count st no_exprs)
put_kind t n (node.Library f text_form count compare one) st = of_found (λ es. expr_of n (library f text_form es compare (base_view one))) (exprs_off count st no_exprs)
put_kind t n (node.BoundOf upper z) st = of_place (λ x. expr_of n (bound_of upper x z)) st
put_kind t n node.DefaultOf st = of_value (λ e. expr_of n (default_of e)) st
put_kind t n node.DefaultIfAny st = of_value (λ e. expr_of n (default_if_any e)) st
put_kind t n node.Enumerated st = of_value (λ e. expr_of n (enumerated e)) st
put_kind t n (node.ItemAlong count) st = of_value_found (λ e es. expr_of n (late_item e es)) (exprs_off count st no_exprs)
put_kind t n node.Same st = of_both (λ a b. expr_of n (same a b)) st
put_kind t n (node.IsType of) st = of_value (λ e. expr_of n (is_type e (declared_view of))) st
put_kind t n (node.HostObject reference) st = expr_of n (host_object reference) ∷ st
put_kind t n node.ActiveSheet st = expr_of n active_sheet ∷ st
put_kind t n (node.MemberThere i given) st = of_value (λ e. a_member e (name_in t i) given) st
put_kind t n (node.HostMember i count) st = of_member_found (name_in t i) (λ e es. expr_of n (host_member e (name_in t i) es)) (exprs_off count st no_exprs)
put_kind t n (node.NamedThere i by given) st = of_value (λ e. a_named_member e (name_in t i) (by_name_in t by) given) st
put_kind t n (node.NamedMember i by count) st =
    of_named_found (name_in t i) (by_name_in t by) (λ e es. expr_of n (named_member e (name_in t i) (by_name_in t by) es)) (exprs_off count st no_exprs)
put_kind t n (node.LateThere aim m) st = of_value (λ e. a_late e (sought_in t aim m)) st
put_kind t n (node.LateValue aim m i) st = of_value (λ e. a_given (value_there e) (sought_in t aim m) i) st
put_kind t n (node.LatePlace aim m i) st = of_place (λ x. a_given (place_there x) (sought_in t aim m) i) st
put_kind t n (node.LateMember m) st = late_put n (sought_in t Reading m) m.arguments st
put_kind t n node.ByPlace st = of_place (λ x. an_argument (place_lent x)) st
put_kind t n (node.ByCopy of) st = of_value (λ e. an_argument (value_copied e (declared_view of))) st
put_kind t n (node.ByDefault i) st = an_argument (default_taken (constant_in t i)) ∷ st
put_kind t n (node.ByList count) st = of_found (λ es. an_argument (values_listed es)) (exprs_off count st no_exprs)
put_kind t n node.Shown st = of_value (λ e. a_value_shown e) st
put_kind t n node.Zone st = a_zone ∷ st
put_kind t n node.TestBegins st = a_test_begun ∷ st
put_kind t n (node.TestIs o of) st = of_test (λ e. a_test_is o n.place (as_operand of e)) st
put_kind t n (node.TestRange low high high_at) st = of_range (λ a b. a_test_range (as_operand low a) (as_operand high b) n.place high_at) st
put_kind t n (node.Resize count of) st = of_place_found (λ x es. a_resize x es (option_map declared_view of)) (exprs_off count st no_exprs)
put_kind t n node.Erased st = of_place (λ x. an_erased x) st

-- the stack behind a node
abbrev pub put : Tables → Node → List Piece → List Piece
put t n st = put_kind t n n.kind st

-- the pieces that stand when nodes are read in order
abbrev pub read : Tables → List Piece → List Node → List Piece
read t st [] = st
read t st (n ∷ ns) = read t (put t n st) ns

-- the pieces of nodes
abbrev pub pieces : Tables → List Node → List Piece
pieces t ns = read t [] ns
