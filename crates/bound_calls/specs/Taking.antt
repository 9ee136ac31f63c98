-- Serves the code: how terms are taken as values.
use Rattle.std.specs.Prelude.{◌≡◌, ℕ, List, [], ◌∷◌, Option, Some, None, if◌then◌else◌, Bool, true, false}
use Rattle.vba_base.specs.declared.place.Place.{Place}
use Rattle.bound_project.specs.declared.declared_type.DeclaredType.{DeclaredType}
use Rattle.bound_project.specs.declared.declared_type.DeclaredType.TheVariants.{Plain}
use Rattle.bound_project.specs.declared.declared_type.ElementType.TheVariants.{Variant}
use Rattle.bound_project.specs.declared.node.NodeKind.{NodeKind}
use Rattle.bound_project.specs.declared.node.NodeKind.TheVariants as node
use Rattle.bound_project.specs.declared.node.LateName.{LateName}
use Rattle.bound_project.specs.declared.node.LateUse.{LateUse}
use Rattle.bound_project.specs.View.{declared_view}
use Rattle.bound_project.specs.Expressions as bound
use Rattle.bound_project.specs.Expressions.{active_sheet, Lvalue}
use Rattle.bound_project.specs.Project.{nowhere}
use Rattle.vba_values.specs.Types as type
use Rattle.bound_project.specs.Pieces.{Piece, Tables, an_expr, name_in, sought_in}
use Rattle.bound_project.specs.Drafts.{Drafted, LateNamed, NodeNamed}
use Rattle.bound_declarations.specs.constant_values.specs.declared_names.specs.binder.specs.Declarations.{Written}
use Rattle.bound_declarations.specs.constant_values.specs.declared_names.specs.binder.specs.Scopes.{Space}
use Rattle.bound_declarations.specs.constant_values.specs.declared_names.specs.binder.specs.Types.{is_object}
use Rattle.bound_forms.specs.Terms.{Env, member_read, no_names, typed_value, routine_term, read_as, read_of}
use Rattle.bound_forms.specs.Terms as plain
use Rattle.bound_forms.specs.Operands.{alone, bare_call, read_alone, value_of}
use Rattle.bound_forms.specs.ExpressionsBound.{indexed}
use Rattle.bound_calls.specs.declared.term.Ending.{Ending}
use Rattle.bound_calls.specs.declared.term.Function.{Function}
use Rattle.bound_calls.specs.declared.term.HostMember.{HostMember}
use Rattle.bound_calls.specs.declared.term.Receiver.{Receiver}
use Rattle.bound_calls.specs.declared.term.Receiver.TheVariants as receiver
use Rattle.bound_calls.specs.declared.term.Routine.{Routine}
use Rattle.bound_calls.specs.declared.term.Term.{Term}
use Rattle.bound_calls.specs.Standing.{FunctionIs, IsReceiver, PlaceEnds, ReceiverStands, TermNamed, ValueEnds, ValueStands, RoutineStands, TermStands, EndingStands, EndingNamed, PushedStands, Grown, member_is}

-- the node that reads a place, where an object is made there first or isn't
abbrev pub read_kind : (makes : Bool) → NodeKind
read_kind true = node.LoadMade
read_kind false = node.Load

-- a place gives way to the value there
pub record Loads (kind : NodeKind) (of : DeclaredType) (makes : Bool) (d e : Drafted) (ending : Option Ending) : Type 0 where
  pub grown : Grown d e
  pub named : EndingNamed e.tables ending
  pub stands : (place : Place) (x : Lvalue) (below : List Piece) → PlaceEnds d.tables kind x d.pieces below → EndingStands e.tables ending place (typed_value (read_of makes x) place (declared_view of)) e.pieces below

-- a procedure is called without arguments: all but the call's node is pushed
pub record BareIs (env : Env) (t : Tables) (e : Ending) (y : plain.Term) (ps below : List Piece) : Type 0 where
  pub base : Option bound.Expr
  pub space : Space
  pub number : ℕ
  pub written : Written
  pub is : y ≡ routine_term base space number written
  pub called : ValueStands t e (bare_call env base space number written) ps below

pub record CallsRoutine (r : Routine) (d e : Drafted) (ending : Ending) : Type 0 where
  pub grown : Grown d e
  pub named : NodeNamed e.tables ending.kind
  pub of_is : ending.of ≡ r.of
  pub stands : (env : Env) (y : plain.Term) (below : List Piece) → RoutineStands env r y d.pieces below → BareIs env e.tables ending y e.pieces below

-- the same at a place, where it breaks a rule without the arguments that it needs; no arguments in brackets make the same of
-- it
pub record CalledIs (env : Env) (t : Tables) (e : Ending) (place : Place) (y : plain.Term) (ps below : List Piece) : Type 0 where
  pub called : ValueStands t e (alone env place y) ps below
  pub indexed_is : indexed env place y [] ≡ alone env place y

pub record CallsAt (r : Routine) (place : Place) (d e : Drafted) (ending : Ending) : Type 0 where
  pub grown : Grown d e
  pub named : NodeNamed e.tables ending.kind
  pub stands : (env : Env) (y : plain.Term) (below : List Piece) → RoutineStands env r y d.pieces below → CalledIs env e.tables ending place y e.pieces below

-- a term is taken as a value at a place
pub record TakesValue (x : Term) (place : Place) (d e : Drafted) (ending : Option Ending) : Type 0 where
  pub grown : Grown d e
  pub named : EndingNamed e.tables ending
  pub stands : (env : Env) (y : plain.Term) (below : List Piece) → TermStands env d.tables x y d.pieces below → EndingStands e.tables ending place (value_of env y place) e.pieces below

-- the same of one that stands alone
pub record ReadsValue (x : Term) (place : Place) (d e : Drafted) (ending : Option Ending) : Type 0 where
  pub grown : Grown d e
  pub named : EndingNamed e.tables ending
  pub stands : (env : Env) (y : plain.Term) (below : List Piece) → TermStands env d.tables x y d.pieces below → EndingStands e.tables ending place (read_as typed_value y place) e.pieces below

-- the active sheet is pushed
abbrev pub sheet_expression : bound.Expr
sheet_expression = plain.expression_of active_sheet nowhere type.worksheet

pub record PushesSheet (d e : Drafted) : Type 0 where
  pub grown : Grown d e
  pub tables_are : e.tables ≡ d.tables
  pub on_top : e.pieces ≡ an_expr sheet_expression ∷ d.pieces

-- a late-bound member without arguments is looked up, whatever is done with it; one more order has none
pub record LooksUpBare (name : ℕ) (d e : Drafted) (found : LateName) : Type 0 where
  pub grown : Grown d e
  pub pieces : e.pieces ≡ d.pieces
  pub named : LateNamed e.tables found
  pub sought : (aim : LateUse) → sought_in e.tables aim found ≡ record { aim = aim; name = name_in d.tables name; by = no_names; given = [] }
  pub none : found.arguments ≡ 0

-- a member of an object is read without arguments, but for its last node, which is of this kind
pub record ReadsBare (m : HostMember) (d e : Drafted) (kind : NodeKind) : Type 0 where
  pub grown : Grown d e
  pub named : NodeNamed e.tables kind
  pub ends : (object : bound.Expr) (below : List Piece) → d.pieces ≡ an_expr object ∷ below
      → ValueEnds e.tables kind (member_read object (member_is d.tables m)) e.pieces below

pub record ReadsMember (m : HostMember) (d e : Drafted) (ending : Ending) : Type 0 where
  pub grown : Grown d e
  pub named : NodeNamed e.tables ending.kind
  pub least_is : m.least ≡ 0
  pub of_is : ending.of ≡ m.of
  pub ends : (object : bound.Expr) (below : List Piece) → d.pieces ≡ an_expr object ∷ below
      → ValueEnds e.tables ending.kind (member_read object (member_is d.tables m)) e.pieces below

-- ---- what stands without arguments

-- the type of a call that breaks a rule, of what has a declared type
abbrev pub told_type : DeclaredType → DeclaredType
told_type of = if is_object (declared_view of) then Plain Variant else of

-- what breaks a rule, with so many values that were pushed, of what has a declared type
abbrev pub broken_ending : (rule : ℕ) → Place → (of : DeclaredType) → (values : ℕ) → Ending
broken_ending rule place of values = record { kind = node.Marked (record { rule = rule; place = place }) values; of = told_type of }

-- how many values stand there of what a procedure is called of
abbrev pub values_of : Receiver → ℕ
values_of receiver.Module = 0
values_of r = 1

-- the object whose procedure isn't called is pushed, where it wasn't
abbrev pub BaseThere : Option bound.Expr → (ps below : List Piece) → Type 0
BaseThere None ps below = ps ≡ below
BaseThere (Some base) ps below = ps ≡ an_expr base ∷ below

pub record PushesObject (r : Receiver) (d e : Drafted) : Type 0 where
  pub grown : Grown d e
  pub there : (base : Option bound.Expr) (below : List Piece) → IsReceiver r base → ReceiverStands r base d.pieces below → BaseThere base e.pieces below

-- a procedure without the arguments that it needs: what is marked is what it is called of
pub record LacksArguments (r : Routine) (place : Place) (d e : Drafted) (ending : Ending) : Type 0 where
  pub pushed : PushesObject r.receiver d e
  pub is : ending ≡ broken_ending 25 place r.of (values_of r.receiver)

-- a member of an object that was pushed, and one of the active sheet
pub record MemberAlone (m : HostMember) (place : Place) (d e : Drafted) (ending : Ending) : Type 0 where
  pub grown : Grown d e
  pub named : NodeNamed e.tables ending.kind
  pub stands : (object : bound.Expr) (below : List Piece) → d.pieces ≡ an_expr object ∷ below
      → ValueStands e.tables ending (read_alone place object (member_is d.tables m)) e.pieces below

pub record SheetAlone (m : HostMember) (place : Place) (d e : Drafted) (ending : Ending) : Type 0 where
  pub grown : Grown d e
  pub named : NodeNamed e.tables ending.kind
  pub stands : ValueStands e.tables ending (read_alone place sheet_expression (member_is d.tables m)) e.pieces d.pieces

-- a function of the library, for which nothing is pushed
pub record FunctionAlone (f : Function) (place : Place) (ending : Ending) : Type 0 where
  pub named : (t : Tables) → NodeNamed t ending.kind
  pub stands : (env : Env) (t : Tables) (y : plain.Term) (ps : List Piece) → FunctionIs env f y → ValueStands t ending (alone env place y) ps ps

-- a term where no arguments stand behind it
pub record StandsAlone (x : Term) (place : Place) (d e : Drafted) (made : Term) : Type 0 where
  pub grown : Grown d e
  pub named : TermNamed e.tables made
  pub stands : (env : Env) (y : plain.Term) (below : List Piece) → TermStands env d.tables x y d.pieces below → TermStands env e.tables made (alone env place y) e.pieces below

-- the last node of a value is pushed
pub record Pushes (ending : Option Ending) (place : Place) (d e : Drafted) (of : Option DeclaredType) : Type 0 where
  pub grown : Grown d e
  pub stands : (found : Option bound.Expr) (below : List Piece) → EndingStands d.tables ending place found d.pieces below → PushedStands of found e.pieces below

-- a value of a type that is no object's
abbrev pub no_object : Ending → Option Ending
no_object e = if is_object (declared_view e.of) then None else Some e
