-- Serves the code: how arguments and calls are pushed.
use Rattle.std.specs.Prelude.{◌≡◌, ◌+◌, length, Bool, true, false, ◌&&◌, ◌||◌, List, ◌∷◌, map, Option, Some, None, option_map, ℕ}
use Rattle.vba_base.specs.declared.place.Place.{Place}
use Rattle.vba_values.specs.Types.{Declared}
use Rattle.vba_lexer.specs.declared.token.Token.{Token}
use Rattle.vba_expression.specs.Tree.{Expr, Args, missing}
use Rattle.vba_expression.specs.Tree as tree
use Rattle.bound_project.specs.declared.declarations.Parameter.{Parameter}
use Rattle.bound_project.specs.declared.declared_type.DeclaredType.{DeclaredType}
use Rattle.bound_project.specs.declared.node.NodeKind.{NodeKind}
use Rattle.bound_project.specs.declared.node.NodeKind.TheVariants as node
use Rattle.bound_project.specs.declared.node.Node.{Node}
use Rattle.bound_project.specs.View.{declared_view, parameter_view}
use Rattle.bound_project.specs.Expressions.{Lvalue}
use Rattle.bound_project.specs.Expressions as bound
use Rattle.bound_project.specs.Lists.{above}
use Rattle.bound_project.specs.Pieces.{Argument, place_lent, value_copied, Piece, an_argument, an_expr}
use Rattle.bound_project.specs.Project as project
use Rattle.bound_project.specs.Drafts.{Drafted}
use Rattle.bound_declarations.specs.constant_values.specs.declared_names.specs.binder.specs.Constants.{is_variant}
use Rattle.bound_declarations.specs.constant_values.specs.declared_names.specs.binder.specs.Types.{is_object}
use Rattle.bound_forms.specs.Terms.{Env, Given, given_to, of_other_type}
use Rattle.bound_forms.specs.Operands.{argument_of, taken_for, place_told}
use Rattle.bound_forms.specs.ExpressionsBound.{term_of}
use Rattle.bound_calls.specs.declared.term.Ending.{Ending}
use Rattle.bound_calls.specs.declared.term.Routine.{Routine}
use Rattle.bound_calls.specs.declared.term.Term.{Term}
use Rattle.bound_calls.specs.declared.term.Term.TheVariants as term
use Rattle.bound_calls.specs.declared.term.Tree.{Tree}
use Rattle.bound_calls.specs.declared.term.Passed.{Passed}
use Rattle.bound_calls.specs.declared.term.Item.{Item}
use Rattle.bound_calls.specs.declared.term.Item.TheVariants as item
use Rattle.bound_calls.specs.Passing.{Taken, NotGiven, AllLeft}
use Rattle.bound_calls.specs.Standing.{PlaceEnds, PushedIs, TreeStands, PassedStands, Grown, plain_given, IsReceiver, ReceiverStands, ReceiverThere}
use Rattle.bound_calls.specs.declared.term.Receiver.{Receiver}
use Rattle.bound_calls.specs.declared.term.Receiver.TheVariants as receiver

-- ---- one argument

-- a node of a type that it has as an operand too
abbrev pub node_of : NodeKind → Place → DeclaredType → Node
node_of kind place of = record { kind = kind; place = place; of = of; operand = of }

-- a place is lent
pub record Lends (kind : NodeKind) (d e : Drafted) : Type 0 where
  pub grown : Grown d e
  pub stands : (x : Lvalue) (below : List Piece) → PlaceEnds d.tables kind x d.pieces below → e.pieces ≡ an_argument (place_lent x) ∷ below

-- a value of a type that is given to what has a type is marked where that breaks a rule
pub record MarksGiven (of : Declared) (bounded : Bool) (place : Place) (given : DeclaredType) (d e : Drafted) (after : DeclaredType) : Type 0 where
  pub grown : Grown d e
  pub stands : (found : Option bound.Expr) (below : List Piece) → PushedIs given found d.pieces below → PushedIs after (option_map (given_to of bounded place) found) e.pieces below

-- a place of another type than the one that a parameter takes is marked
pub record MarksOther (lent : Ending) (parameter : DeclaredType) (place : Place) (d e : Drafted) : Type 0 where
  pub grown : Grown d e
  pub stands : (x : Lvalue) (below : List Piece) → PlaceEnds d.tables lent.kind x d.pieces below
      → e.pieces ≡ an_argument (value_copied (of_other_type x (declared_view lent.of) (declared_view parameter) place) (declared_view parameter)) ∷ below

-- the place that a term lends, and its type
abbrev pub lent_in : Term → Option Ending
lent_in (term.Place kind of bounds true makes) = Some (record { kind = kind; of = of })
lent_in x = None

-- a place that isn't lent is copied, where it is one of another object type, or an element of a Variant variable, or what
-- the run says arguments lead to
abbrev pub may_be_item : NodeKind → Bool
may_be_item (node.Item x count) = is_variant (declared_view x.of)
may_be_item (node.ElementAlong count) = true
may_be_item kind = false

abbrev pub is_copied : NodeKind → (of parameter : DeclaredType) → Bool
is_copied kind of parameter = (is_object (declared_view of) && is_object (declared_view parameter)) || may_be_item kind

-- a parameter of a type takes an object as it is
abbrev pub keeps_object : DeclaredType → Bool
keeps_object of = is_variant (declared_view of) || is_object (declared_view of)

-- a value that was pushed for a parameter of a type
pub record ArgumentIs (found : Option bound.Expr) (ps below : List Piece) : Type 0 where
  pub made : bound.Expr
  pub is : found ≡ Some made
  pub on_top : ps ≡ an_expr made ∷ below

pub record PushesTaken (of : DeclaredType) (x : Tree) (d e : Drafted) (given : DeclaredType) : Type 0 where
  pub grown : Grown d e
  pub stands : (env : Env) (tree : Expr) (below : List Piece) → TreeStands env d.tables x tree d.pieces below
      → PushedIs given (taken_for env (declared_view of) (term_of env tree) (place_told tree)) e.pieces below

pub record PushesArgument (of : DeclaredType) (x : Tree) (d e : Drafted) : Type 0 where
  pub grown : Grown d e
  pub stands : (env : Env) (tree : Expr) (below : List Piece) → TreeStands env d.tables x tree d.pieces below
      → ArgumentIs (argument_of env (declared_view of) (term_of env tree) (place_told tree)) e.pieces below

-- a value that was copied for a parameter of a type
pub record CopiedIs (of : DeclaredType) (found : Option bound.Expr) (ps below : List Piece) : Type 0 where
  pub made : bound.Expr
  pub is : found ≡ Some made
  pub on_top : ps ≡ an_argument (value_copied made (declared_view of)) ∷ below

pub record Copies (of : DeclaredType) (x : Tree) (d e : Drafted) : Type 0 where
  pub grown : Grown d e
  pub stands : (env : Env) (tree : Expr) (below : List Piece) → TreeStands env d.tables x tree d.pieces below
      → CopiedIs of (argument_of env (declared_view of) (term_of env tree) (place_told tree)) e.pieces below

-- an argument that was pushed for a parameter
pub record TakenIs (env : Env) (p : project.Parameter) (g : Given) (ps below : List Piece) : Type 0 where
  pub made : Argument
  pub taken : Taken (argument_of env) p g made
  pub on_top : ps ≡ an_argument made ∷ below

-- an expression is passed to a parameter
pub record PassesTree (p : Parameter) (x : Tree) (d e : Drafted) : Type 0 where
  pub grown : Grown d e
  pub stands : (env : Env) (tree : Expr) (below : List Piece) → TreeStands env d.tables x tree d.pieces below → TakenIs env (parameter_view p) (plain_given env tree) e.pieces below

-- nothing is given to a parameter, and to others
pub record PassesNone (p : Parameter) (d e : Drafted) : Type 0 where
  pub grown : Grown d e
  pub made : Argument
  pub left : NotGiven (parameter_view p) made
  pub on_top : e.pieces ≡ an_argument made ∷ d.pieces

pub record PassesRest (ps : List Parameter) (d e : Drafted) : Type 0 where
  pub grown : Grown d e
  pub made : List Argument
  pub left : AllLeft (map parameter_view ps) made
  pub on_top : e.pieces ≡ above (map an_argument made) d.pieces

-- ---- one more argument

pub record PassesPlain (x : Passed) (y : Tree) (d e : Drafted) (z : Passed) : Type 0 where
  pub grown : Grown d e
  pub stands : (env : Env) (parameters : List project.Parameter) (args : Args) (comma : Option Token) (e' : Expr) (between below : List Piece) → TreeStands env d.tables y e' d.pieces between
      → PassedStands env parameters x args between below → PassedStands env parameters z (tree.plain args comma e') e.pieces below

pub record PassesMissing (x : Passed) (d e : Drafted) (z : Passed) : Type 0 where
  pub grown : Grown d e
  pub stands : (env : Env) (parameters : List project.Parameter) (args : Args) (comma : Option Token) (below : List Piece) → PassedStands env parameters x args d.pieces below
      → PassedStands env parameters z (missing args comma) e.pieces below

-- the arguments of an item, and an item with others
abbrev pub passed_in : Item → Option Passed
passed_in (item.Call x) = Some x.passed
passed_in (item.Listed x) = Some x
passed_in x = None

abbrev pub with_passed : Item → Passed → Item
with_passed (item.Call x) passed = item.Call (record x { passed = passed })
with_passed (item.Listed x) passed = item.Listed passed
with_passed x passed = x

-- ---- the ends of calls

-- the node of a call of a procedure: of a standard module, or of an object
abbrev pub call_kind : Receiver → (procedure arguments : ℕ) → NodeKind
call_kind receiver.Module procedure arguments = node.Call procedure arguments
call_kind r procedure arguments = node.Method procedure arguments

-- what a procedure is called of stands before its arguments
pub record PushesReceiver (r : Receiver) (d e : Drafted) : Type 0 where
  pub grown : Grown d e
  pub there : (base : Option bound.Expr) (below : List Piece) → IsReceiver r base → ReceiverStands r base d.pieces below → ReceiverThere base e.pieces below

-- all but the node of a call is pushed
pub record EndsCall (r : Routine) (x : Passed) (d e : Drafted) (ending : Ending) : Type 0 where
  pub grown : Grown d e
  pub made : List Argument
  pub left : AllLeft (map parameter_view x.left.now) made
  pub on_top : e.pieces ≡ above (map an_argument made) d.pieces
  pub ending_is : ending ≡ record { kind = call_kind r.receiver r.procedure (x.count + length made); of = r.of }
