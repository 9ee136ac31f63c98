-- Serves the code: what arguments behind an object of a class lead to, where it is assigned to or set.
use Rattle.std.specs.Prelude.{◌≡◌, ℕ, Bool, true, false, length, List, [], ◌∷◌, ◌++◌, map, Option, Some, None}
use Rattle.vba_base.specs.declared.place.Place.{Place}
use Rattle.vba_lexer.specs.declared.token.Token.{Token}
use Rattle.vba_expression.specs.Tree.{Args, Expr, index, no_args}
use Rattle.vba_expression.specs.Nodes as nodes
use Rattle.vba_expression.specs.Nodes.{behind_nodes, last_tree}
use Rattle.vba_expression.specs.declared.node.ExpressionNode.{ExpressionNode}
use Rattle.vba_expression.specs.declared.node.ExpressionNode.TheVariants as node
use Rattle.bound_project.specs.declared.statement.ActionKind.{ActionKind}
use Rattle.bound_project.specs.declared.statement.ActionKind.TheVariants as action
use Rattle.bound_project.specs.Bodies.{action_of}
use Rattle.bound_project.specs.Drafts.{ActionNamed, Drafted}
use Rattle.bound_project.specs.Expressions.{Exprs, Lvalue, also}
use Rattle.bound_project.specs.Expressions as bound
use Rattle.bound_project.specs.Lists.{above, exprs_of}
use Rattle.bound_project.specs.Pieces.{Piece, Tables, a_place, an_expr}
use Rattle.bound_project.specs.Project.{Declarations}
use Rattle.bound_project.specs.Statements.{Action, assign_element, set_element}
use Rattle.bound_project.specs.View.{declared_view}
use Rattle.declared_names.specs.binder.specs.Classes.{class_in}
use Rattle.bound_terms.specs.bound_accesses.specs.bound_names.specs.bound_members.specs.bound_calls.specs.bound_forms.specs.ClassDefaults.{Known, class_let, class_set, declared_in}
use Rattle.bound_terms.specs.bound_accesses.specs.bound_names.specs.bound_members.specs.bound_calls.specs.bound_forms.specs.Terms.{Env, Given}
use Rattle.bound_terms.specs.bound_accesses.specs.bound_names.specs.bound_members.specs.bound_calls.specs.bound_forms.specs.Terms as plain
use Rattle.bound_terms.specs.bound_accesses.specs.bound_names.specs.bound_members.specs.bound_calls.specs.bound_forms.specs.Operands.{given_as, place_told}
use Rattle.bound_terms.specs.bound_accesses.specs.bound_names.specs.bound_members.specs.bound_calls.specs.bound_forms.specs.ExpressionsBound.{callee, givens, indexed, term_of, variant_arguments}
use Rattle.bound_terms.specs.bound_accesses.specs.bound_names.specs.bound_members.specs.bound_calls.specs.bound_forms.specs.Targets.{broken_target, element_assigned, element_given, led_assigned, led_set}
use Rattle.bound_terms.specs.bound_accesses.specs.bound_names.specs.bound_members.specs.bound_calls.specs.declared.term.Indexed.{Indexed}
use Rattle.bound_terms.specs.bound_accesses.specs.bound_names.specs.bound_members.specs.bound_calls.specs.declared.term.Target.{Target}
use Rattle.bound_terms.specs.bound_accesses.specs.bound_names.specs.bound_members.specs.bound_calls.specs.declared.term.Target.TheVariants as target
use Rattle.bound_terms.specs.bound_accesses.specs.bound_names.specs.bound_members.specs.bound_calls.specs.declared.term.Term.{Term}
use Rattle.bound_terms.specs.bound_accesses.specs.bound_names.specs.bound_members.specs.bound_calls.specs.declared.term.Term.TheVariants as term
use Rattle.bound_terms.specs.bound_accesses.specs.bound_names.specs.bound_members.specs.bound_calls.specs.class_defaults.specs.Items.{ArePlain}
use Rattle.bound_terms.specs.bound_accesses.specs.bound_names.specs.bound_members.specs.bound_calls.specs.Standing.{Grown, IndexedStands, TermStands}
use Rattle.statement_terms.specs.Called.{ActionIs, Framed, args_on, item_before}

-- the class that a term is declared as of
abbrev pub term_class : Term → Option ℕ
term_class (term.Place kind of bounds lends makes) = class_in (declared_view of)
term_class (term.Value e) = class_in (declared_view e.of)
term_class x = None

-- what so many arguments lead to takes a value, or is given an object
abbrev pub led_known : (sets : Bool) → Declarations → (number : ℕ) → List Given → Known
led_known false d number gs = class_let d number gs
led_known true d number gs = class_set d number gs

abbrev pub led_done : (sets : Bool) → Env → (number : ℕ) → Place → plain.Term → List Given → bound.Expr → Option Action
led_done false env number place t gs v = led_assigned env (class_let (declared_in env.scope) number gs) place t gs v
led_done true env number place t gs v = led_set env (class_set (declared_in env.scope) number gs) place t gs v

abbrev pub element_kind : (sets : Bool) → (numbers : ℕ) → ActionKind
element_kind false numbers = action.AssignElement numbers
element_kind true numbers = action.SetElement numbers

abbrev pub element_done : (sets : Bool) → Lvalue → Exprs → bound.Expr → Action
element_done false at es v = assign_element at es v
element_done true at es v = set_element at es v

abbrev pub element_by : (sets : Bool) → plain.Term → bound.Expr → Option Action
element_by false z v = element_assigned z v
element_by true z v = element_given z v

-- arguments lead on from a place, or from a value as a place, for so many of which that is known
abbrev pub led_count : Target → Option ℕ
led_count (target.PlaceLed count) = Some count
led_count (target.LedAsPlace count) = Some count
led_count x = None

-- a term is pushed of which arguments lead on, that are read from now on
pub record BeginsAt (env : Env) (place : Place) (x : Term) (d e : Drafted) (y : Indexed) : Type 0 where
  pub grown : Grown d e
  pub stands : (tree : Expr) (below : List Piece) → place ≡ place_told tree → TermStands env d.tables x (callee env tree (term_of env tree)) d.pieces below → IndexedStands env y tree no_args e.pieces below

-- so many arguments in brackets of an expression were pushed, behind the place that they lead on from
pub record LedAt (env : Env) (base whole : Expr) (left right : Token) (count : ℕ) (ps below : List Piece) : Type 0 where
  pub args : Args
  pub whole_is : whole ≡ index base left args right
  pub plain : ArePlain count (givens env args)
  pub at : Lvalue
  pub numbers : List bound.Expr
  pub count_is : count ≡ length numbers
  pub does : (sets : Bool) (v : bound.Expr) → element_by sets (indexed env (place_told base) (item_before env base) (givens env args)) v ≡ Some (element_done sets at (exprs_of numbers) v)
  pub on_top : ps ≡ above (map an_expr numbers) (a_place at ∷ below)

pub record LeadsOn (env : Env) (place : Place) (x : Term) (ns : List ExpressionNode) (d e : Drafted) (count : ℕ) : Type 0 where
  pub grown : Grown d e
  pub stands : (base : Expr) (left right : Token) (below : List Piece) → place ≡ place_told base → TermStands env d.tables x (callee env base (term_of env base)) d.pieces below
      → LedAt env base (last_tree (behind_nodes (nodes.tree base ∷ []) (ns ++ node.Index left right ∷ []))) left right count e.pieces below

-- such an expression is assigned a value, or set to an object, where it is known what so many arguments lead to
pub record KnownDone (sets : Bool) (env : Env) (base whole : Expr) (left right : Token) (count : ℕ) (kind : ActionKind) (t : Tables) (ps below : List Piece) : Type 0 where
  pub args : Args
  pub whole_is : whole ≡ index base left args right
  pub plain : ArePlain count (givens env args)
  pub does : (value : bound.Expr) → below ≡ an_expr value ∷ [] → ActionIs kind (element_by sets (indexed env (place_told base) (item_before env base) (givens env args)) value) t ps

pub record GivesKnown (sets : Bool) (env : Env) (place : Place) (x : Term) (count : ℕ) (ns : List ExpressionNode) (d e : Drafted) (kind : ActionKind) : Type 0 where
  pub grown : Grown d e
  pub named : ActionNamed e.tables kind
  pub stands : (base : Expr) (left right : Token) (below : List Piece) → place ≡ place_told base → TermStands env d.tables x (callee env base (term_of env base)) d.pieces below
      → KnownDone sets env base (last_tree (behind_nodes (nodes.tree base ∷ []) (ns ++ node.Index left right ∷ []))) left right count kind e.tables e.pieces below

-- an object was pushed, and so many arguments that break a rule behind it: it is the target of this rule
pub record RefusedAt (env : Env) (place : Place) (y : plain.Term) (gs : List Given) (rule count : ℕ) (value : bound.Expr) (kind : ActionKind) (t : Tables) (ps : List Piece) : Type 0 where
  pub plain : ArePlain count gs
  pub object : bound.Expr
  pub object_is : given_as env y place ≡ Some object
  pub made : Exprs
  pub made_is : variant_arguments env gs ≡ Some made
  pub fits : action_of t kind ps ≡ Some (broken_target rule place value (also object made))

pub record RefusesLed (env : Env) (place : Place) (x : Term) (rule count : ℕ) (ns : List ExpressionNode) (d e : Drafted) (kind : ActionKind) : Type 0 where
  pub grown : Grown d e
  pub named : ActionNamed e.tables kind
  pub framed : Framed ns
  pub does : (items : List nodes.Item) (y : plain.Term) (value : bound.Expr) → TermStands env d.tables x y d.pieces (an_expr value ∷ []) → RefusedAt env place y (givens env (args_on items ns)) rule count value kind e.tables e.pieces

-- an expression with arguments in brackets behind an object of a class is assigned a value, or set to an object
pub record DoesLed (sets : Bool) (env : Env) (number : ℕ) (base whole : Expr) (left right : Token) (kind : ActionKind) (t : Tables) (ps below : List Piece) : Type 0 where
  pub args : Args
  pub whole_is : whole ≡ index base left args right
  pub does : (value : bound.Expr) → below ≡ an_expr value ∷ [] → ActionIs kind (led_done sets env number (place_told base) (item_before env base) (givens env args) value) t ps

pub record GivesLed (sets : Bool) (env : Env) (place : Place) (x : Term) (number : ℕ) (ns : List ExpressionNode) (d e : Drafted) (kind : ActionKind) : Type 0 where
  pub grown : Grown d e
  pub named : ActionNamed e.tables kind
  pub stands : (base : Expr) (left right : Token) (below : List Piece) → place ≡ place_told base → TermStands env d.tables x (callee env base (term_of env base)) d.pieces below
      → DoesLed sets env number base (last_tree (behind_nodes (nodes.tree base ∷ []) (ns ++ node.Index left right ∷ []))) left right kind e.tables e.pieces below
