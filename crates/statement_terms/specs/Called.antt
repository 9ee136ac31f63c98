-- Serves the code: calls that stand as statements.
use Rattle.std.specs.Prelude.{◌≡◌, ℕ, ◌+◌, length, Bool, false, List, [], ◌∷◌, ◌++◌, map, Option, Some, None, option_map, true, is_some}
use Rattle.vba_base.specs.declared.place.Place.{Place}
use Rattle.vba_lexer.specs.declared.token.Token.{Token}
use Rattle.vba_values.specs.Types.{Declared}
use Rattle.vba_expression.specs.Tree.{Expr, Args, index}
use Rattle.vba_expression.specs.Nodes as nodes
use Rattle.vba_expression.specs.Nodes.{behind_nodes, items_of, last_arguments, tree_in}
use Rattle.vba_expression.specs.declared.node.ExpressionNode.{ExpressionNode}
use Rattle.vba_expression.specs.declared.node.ExpressionNode.TheVariants as node
use Rattle.bound_project.specs.declared.declared_type.DeclaredType.{DeclaredType}
use Rattle.bound_project.specs.declared.statement.ActionKind.{ActionKind}
use Rattle.bound_project.specs.declared.statement.ActionKind.TheVariants as action
use Rattle.bound_project.specs.View.{declared_view}
use Rattle.bound_project.specs.Bodies.{action_of}
use Rattle.bound_project.specs.Drafts.{Drafted, ActionNamed}
use Rattle.bound_project.specs.Expressions as bound
use Rattle.bound_project.specs.Lists.{above, args_of}
use Rattle.bound_project.specs.Pieces.{Argument, Piece, Tables, an_argument, an_expr}
use Rattle.bound_project.specs.Project as project
use Rattle.bound_project.specs.Statements.{Action}
use Rattle.bound_members.specs.bound_calls.specs.bound_declarations.specs.constant_values.specs.declared_names.specs.binder.specs.Options.{or_else}
use Rattle.bound_members.specs.bound_calls.specs.bound_forms.specs.Terms.{Env, Given, bound_arguments, has_names}
use Rattle.bound_members.specs.bound_calls.specs.bound_forms.specs.Terms as plain
use Rattle.bound_members.specs.bound_calls.specs.bound_forms.specs.Operands.{argument_of, behind_base, may_be_instance, place_told}
use Rattle.bound_members.specs.bound_calls.specs.bound_forms.specs.Members.{item_of}
use Rattle.bound_members.specs.bound_calls.specs.bound_forms.specs.ExpressionsBound.{callee, givens, term_of}
use Rattle.bound_members.specs.bound_calls.specs.bound_forms.specs.Targets.{assigned, assigned_to, broken_target, untaken, is_given_with, property_given, set_by}
use Rattle.bound_members.specs.bound_calls.specs.bound_forms.specs.StatementsBound.{called_term, called_with}
use Rattle.statement_terms.specs.declared.trees.Split.{Split}
use Rattle.bound_members.specs.bound_calls.specs.declared.term.Item.TheVariants as item
use Rattle.bound_members.specs.bound_calls.specs.declared.term.Ordered.{Ordered}
use Rattle.bound_members.specs.bound_calls.specs.declared.term.Passed.{Passed}
use Rattle.bound_members.specs.bound_calls.specs.declared.term.Property.{Property}
use Rattle.bound_members.specs.bound_calls.specs.declared.term.Term.{Term}
use Rattle.bound_members.specs.bound_calls.specs.declared.term.Tree.{Tree}
use Rattle.bound_members.specs.bound_calls.specs.Standing.{PropertyStands, PassedStands, TermStands, TreeStands, Grown, IsReceiver, ReceiverStands, ReceiverThere}
use Rattle.bound_members.specs.bound_calls.specs.Steps.{Goes, Leaves}
use Rattle.bound_members.specs.bound_calls.specs.Calls.{PassesRest}
use Rattle.statement_terms.specs.declared.assigning.PropertyLet.{PropertyLet}
use Rattle.bound_members.specs.bound_calls.specs.declared.term.Receiver.{Receiver}
use Rattle.bound_members.specs.bound_calls.specs.declared.term.Receiver.TheVariants as receiver

-- ---- expressions by a part of their nodes

-- nodes are an expression, of which all but the last node is pushed
pub record LeavesAlone (env : Env) (ns : List ExpressionNode) (d e : Drafted) (x : Tree) : Type 0 where
  pub leaves : Leaves env (tree_in ns) d e x
  pub alone : items_of ns ≡ nodes.tree (tree_in ns) ∷ []

-- nodes that end with arguments in brackets
pub record SplitAt (x : Split) (all : List ExpressionNode) : Type 0 where
  pub left : Token
  pub right : Token
  pub is : all ≡ x.target.now ++ x.closed.now
  pub closed_is : x.closed.now ≡ x.arguments.now ++ node.Index left right ∷ []

-- more nodes were read behind an expression
pub record Continues (env : Env) (x : Tree) (ns : List ExpressionNode) (d e : Drafted) (y : Tree) : Type 0 where
  pub goes : Goes env d (item.Tree x ∷ []) e (item.Tree y ∷ []) (λ is. behind_nodes is ns)

-- an expression that doesn't end with arguments in brackets
abbrev pub IsBare : Expr → Type 0
IsBare (index base left args right) = ⊥
IsBare e = Unit {0}

-- what brackets stand behind where they index no property's value
abbrev pub item_before : Env → Expr → plain.Term
item_before env base = item_of env (place_told base) (callee env base (term_of env base))

-- ---- arguments by their nodes, behind other items

abbrev pub args_on : List nodes.Item → List ExpressionNode → Args
args_on items ns = last_arguments (behind_nodes items ns)

abbrev pub Framed : List ExpressionNode → Type 0
Framed ns = (items : List nodes.Item) → behind_nodes items ns ≡ nodes.arguments (args_on items ns) ∷ items

-- the arguments of a statement were pushed for these parameters
pub record Reads (env : Env) (parameters : List project.Parameter) (ns : List ExpressionNode) (d e : Drafted) (x : Passed) : Type 0 where
  pub grown : Grown d e
  pub framed : Framed ns
  pub stands : (items : List nodes.Item) → PassedStands env parameters x (args_on items ns) e.pieces d.pieces

-- what the other parameters have was pushed behind those that are written: so many of them, and so many in all
pub record RestPushed (x : Passed) (d e : Drafted) (written all : ℕ) : Type 0 where
  pub rest : PassesRest x.left.now d e
  pub written_is : written ≡ x.count
  pub all_is : all ≡ x.count + length x.left.now

-- all arguments were pushed that parameters have: so many are written, and so many there are
pub record AllPassed (env : Env) (parameters : List project.Parameter) (gs : List Given) (written all : ℕ) (ps below : List Piece) : Type 0 where
  pub made : List Argument
  pub bound : bound_arguments (argument_of env) parameters gs ≡ Some (args_of made)
  pub all_is : all ≡ length made
  pub written_is : written ≡ length gs
  pub no_names : has_names gs ≡ false
  pub on_top : ps ≡ above (map an_argument made) below

pub record PassesAll (env : Env) (parameters : List project.Parameter) (ns : List ExpressionNode) (d e : Drafted) (written all : ℕ) : Type 0 where
  pub grown : Grown d e
  pub framed : Framed ns
  pub stands : (items : List nodes.Item) → AllPassed env parameters (givens env (args_on items ns)) written all e.pieces d.pieces

-- ---- what is done

pub record ActionIs (kind : ActionKind) (found : Option Action) (t : Tables) (ps : List Piece) : Type 0 where
  pub made : Action
  pub is : found ≡ Some made
  pub fits : action_of t kind ps ≡ Some made

-- a statement calls a term with what is given
pub record Acts (env : Env) (x : Term) (place : Place) (gs : List Given) (d e : Drafted) (kind : ActionKind) : Type 0 where
  pub grown : Grown d e
  pub named : ActionNamed e.tables kind
  pub stands : (y : plain.Term) → TermStands env d.tables x y d.pieces [] → ActionIs kind (called_term env place y gs) e.tables e.pieces

-- the same by the nodes of arguments
pub record ActsOn (env : Env) (x : Term) (place : Place) (ns : List ExpressionNode) (d e : Drafted) (kind : ActionKind) : Type 0 where
  pub framed : Framed ns
  pub acts : (items : List nodes.Item) → Acts env x place (givens env (args_on items ns)) d e kind

-- the same of an expression
pub record CallsTree (env : Env) (x : Tree) (gs : List Given) (d e : Drafted) (kind : ActionKind) : Type 0 where
  pub grown : Grown d e
  pub named : ActionNamed e.tables kind
  pub stands : (tree : Expr) → TreeStands env d.tables x tree d.pieces [] → ActionIs kind (called_with env tree gs) e.tables e.pieces

pub record CallsTreeOn (env : Env) (x : Tree) (ns : List ExpressionNode) (d e : Drafted) (kind : ActionKind) : Type 0 where
  pub framed : Framed ns
  pub calls : (items : List nodes.Item) → CallsTree env x (givens env (args_on items ns)) d e kind

-- ---- properties that are assigned to

-- a property of an object
abbrev pub is_method : Receiver → Bool
is_method receiver.Module = false
is_method other = true

-- a property, or one of an object, is given a value, or an object itself
abbrev pub property_kind : (of_object itself : Bool) → (procedure arguments : ℕ) → DeclaredType → ActionKind
property_kind false false procedure arguments of = action.LetProperty procedure arguments of
property_kind false true procedure arguments of = action.SetProperty procedure arguments of
property_kind true false procedure arguments of = action.LetMethod procedure arguments of
property_kind true true procedure arguments of = action.SetMethod procedure arguments of

-- the same of arguments of which the last ones have names
abbrev pub ordered_kind : (of_object itself : Bool) → (procedure : ℕ) → Ordered → DeclaredType → ActionKind
ordered_kind false false procedure o of = action.LetPropertyInOrder procedure o.arguments o.order of
ordered_kind false true procedure o of = action.SetPropertyInOrder procedure o.arguments o.order of
ordered_kind true false procedure o of = action.LetMethodInOrder procedure o.arguments o.order of
ordered_kind true true procedure o of = action.SetMethodInOrder procedure o.arguments o.order of

-- what is done with the value and what is given before it to a property with these parameters, of an object where it has one
abbrev pub let_with : Env → Place → (itself : Bool) → Option bound.Expr → List project.Parameter → (procedure : ℕ) → Declared → List Given → bound.Expr → Option Action
let_with env place itself base parameters procedure of gs value =
    or_else (option_map (λ args. property_given itself base procedure args value of) (bound_arguments (argument_of env) parameters gs))
    (option_map (λ es. broken_target 25 place value (behind_base base es)) (untaken env parameters gs))

-- arguments were pushed for these parameters, behind the object whose property it is, and behind the value
pub record LetMade (env : Env) (parameters : List project.Parameter) (itself : Bool) (base : Option bound.Expr) (procedure : ℕ) (of : DeclaredType) (gs : List Given) (value : bound.Expr) (kind : ActionKind) (t : Tables) (ps : List Piece) : Type 0
  where
    pub args : bound.Args
    pub bound_is : bound_arguments (argument_of env) parameters gs ≡ Some args
    pub fits : action_of t kind ps ≡ Some (property_given itself base procedure args value (declared_view of))

-- the same by the nodes of arguments, behind the object; and where they may not be taken, too
pub record LetsTaken (env : Env) (parameters : List project.Parameter) (of_object itself : Bool) (procedure : ℕ) (of : DeclaredType) (ns : List ExpressionNode) (d e : Drafted) (kind : ActionKind) : Type 0 where
  pub grown : Grown d e
  pub named : ActionNamed e.tables kind
  pub framed : Framed ns
  pub stands : (items : List nodes.Item) (value : bound.Expr) (base : Option bound.Expr) → is_some base ≡ of_object → ReceiverThere base d.pieces (an_expr value ∷ []) → LetMade env parameters itself base procedure of (givens env (args_on items ns)) value kind e.tables e.pieces

pub record LetsWith (env : Env) (place : Place) (parameters : List project.Parameter) (p : PropertyLet) (ns : List ExpressionNode) (d e : Drafted) (kind : ActionKind) : Type 0 where
  pub grown : Grown d e
  pub named : ActionNamed e.tables kind
  pub framed : Framed ns
  pub stands : (items : List nodes.Item) (value : bound.Expr) (base : Option bound.Expr) → IsReceiver p.receiver base → ReceiverStands p.receiver base d.pieces (an_expr value ∷ [])
      → ActionIs kind (let_with env place p.is_itself base parameters p.procedure (declared_view p.of) (givens env (args_on items ns)) value) e.tables e.pieces

-- what a property that is given a value does: by an assignment, or by a Set
abbrev pub property_gets : (sets : Bool) → Env → Place → bound.Expr → List Given → plain.Term → Option Action
property_gets false env place value gs y = assigned env place value gs y
property_gets true env place value gs y = set_by env place gs y value

-- its arguments were pushed behind its object, where it has one, and the value that it is given
pub record Lets (sets : Bool) (env : Env) (p : Property) (place : Place) (gs : List Given) (d e : Drafted) (kind : ActionKind) : Type 0 where
  pub grown : Grown d e
  pub named : ActionNamed e.tables kind
  pub stands : (y : plain.Term) (value : bound.Expr) → PropertyStands env p y d.pieces (an_expr value ∷ []) → ActionIs kind (property_gets sets env place value gs y) e.tables e.pieces

pub record LetsOn (sets : Bool) (env : Env) (p : Property) (place : Place) (ns : List ExpressionNode) (d e : Drafted) (kind : ActionKind) : Type 0 where
  pub framed : Framed ns
  pub lets : (items : List nodes.Item) → Lets sets env p place (givens env (args_on items ns)) d e kind

-- whether a value may be an object of a class, where that is known
abbrev pub MayBe : Env → (may : Option Bool) → bound.Expr → Type 0
MayBe env None value = Unit {0}
MayBe env (Some may) value = may_be_instance env value ≡ may

-- an expression is assigned the value that was pushed, which may be an object of a class or not, and whether that comes as it is
pub record AssignsTo (env : Env) (may : Option Bool) (place : Expr) (d e : Drafted) (kind : ActionKind) (given : Bool) : Type 0 where
  pub grown : Grown d e
  pub named : ActionNamed e.tables kind
  pub takes : is_given_with env place ≡ given
  pub stands : (value : bound.Expr) → MayBe env may value → d.pieces ≡ an_expr value ∷ [] → ActionIs kind (assigned_to env place value) e.tables e.pieces
