-- Serves the code: late-bound members, and their arguments.
use Rattle.std.specs.Prelude.{◌≡◌, ℕ, ◌==◌, ◌+◌, length, Bool, true, not, List, ◌∷◌, Option, Some, None, if◌then◌else◌, option_and_then}
use Rattle.vba_expression.specs.Tree.{Expr}
use Rattle.bound_project.specs.declared.node.LateName.{LateName}
use Rattle.bound_project.specs.declared.node.LateUse.{LateUse}
use Rattle.bound_project.specs.declared.node.NodeKind.{NodeKind}
use Rattle.bound_project.specs.View.{declared_view}
use Rattle.bound_project.specs.Expressions.{Lvalue}
use Rattle.bound_project.specs.Expressions as bound
use Rattle.bound_project.specs.Drafts.{Drafted, LateNamed}
use Rattle.bound_project.specs.Pieces.{GivenArgument, Piece, Tables, a_given, order_in, place_there, sought_in, value_there}
use Rattle.bound_calls.specs.bound_forms.specs.Terms.{Env, is_user_type}
use Rattle.bound_calls.specs.bound_forms.specs.Operands.{place_told, argument_of}
use Rattle.bound_calls.specs.bound_forms.specs.ExpressionsBound.{term_of}
use Rattle.bound_calls.specs.declared.term.Ending.{Ending}
use Rattle.bound_calls.specs.declared.term.MemberCall.{MemberCall}
use Rattle.bound_calls.specs.declared.term.Term.{Term}
use Rattle.bound_calls.specs.declared.term.Tree.{Tree}
use Rattle.bound_calls.specs.Calls.{lent_in}
use Rattle.bound_calls.specs.Standing.{Grown, LateIs, PlaceEnds, TreeStands, argument_there}
use Rattle.bound_members.specs.MemberCalls.{given_as_named}
use Rattle.vba_values.specs.Types as type

-- a late-bound member is looked up by a name, for which nothing is pushed
pub record LooksUpLate (name : ℕ) (d e : Drafted) (found : LateName) : Type 0 where
  pub grown : Grown d e
  pub pieces : e.pieces ≡ d.pieces
  pub named : LateNamed e.tables found
  pub by_name : found.name ≡ name

-- whether an argument is to be written: 0 stands for one that isn't, and those past the end are
abbrev pub flag_told : Option ℕ → Bool
flag_told None = true
flag_told (Some flag) = not (flag == 0)

-- the place that a term lends to a late-bound member
abbrev pub lent_late : Term → Option Ending
lent_late x = option_and_then (λ (lent : Ending). if is_user_type (declared_view lent.of) then None else Some lent) (lent_in x)

-- a place is pushed as the argument of this number
pub record LendsLate (aim : LateUse) (m : LateName) (i : ℕ) (kind : NodeKind) (d e : Drafted) : Type 0 where
  pub grown : Grown d e
  pub stands : (x : Lvalue) (below : List Piece) → PlaceEnds d.tables kind x d.pieces below → e.pieces ≡ a_given (place_there x) (sought_in e.tables aim m) i ∷ below

-- the value of an expression is pushed as the argument of this number
pub record LateValueIs (found : Option bound.Expr) (t : Tables) (aim : LateUse) (m : LateName) (i : ℕ) (ps below : List Piece) : Type 0 where
  pub made : bound.Expr
  pub is : found ≡ Some made
  pub there : argument_there (value_there made) ≡ true
  pub on_top : ps ≡ a_given (value_there made) (sought_in t aim m) i ∷ below

pub record PushesLateValue (aim : LateUse) (m : LateName) (i : ℕ) (y : Tree) (d e : Drafted) : Type 0 where
  pub grown : Grown d e
  pub stands : (env : Env) (tree : Expr) (below : List Piece) → TreeStands env d.tables y tree d.pieces below
      → LateValueIs (argument_of env type.variant (term_of env tree) (place_told tree)) e.tables aim m i e.pieces below

-- an expression is pushed as the argument of this number, with a name or without one
pub record LateArgumentIs (env : Env) (tree : Expr) (t : Tables) (aim : LateUse) (m : LateName) (i : ℕ) (ps below : List Piece) : Type 0 where
  pub made : GivenArgument
  pub is : (name : Option (List ℕ)) → LateIs env (given_as_named env name tree) made
  pub there : argument_there made ≡ true
  pub on_top : ps ≡ a_given made (sought_in t aim m) i ∷ below

pub record PushesLate (aim : LateUse) (m : LateName) (i : ℕ) (y : Tree) (d e : Drafted) : Type 0 where
  pub grown : Grown d e
  pub stands : (env : Env) (tree : Expr) (below : List Piece) → TreeStands env d.tables y tree d.pieces below → LateArgumentIs env tree e.tables aim m i e.pieces below

-- the arguments came by which a late-bound member was looked up
pub record LateCame (t : Tables) (x : MemberCall) (found : LateName) : Type 0 where
  pub all : x.named ≡ length (order_in t found.names.order)
  pub count : x.count ≡ found.names.before + x.named
  pub arguments : x.count ≡ found.arguments
