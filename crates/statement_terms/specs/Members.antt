-- Serves the code: members of objects, and other objects, that are assigned to.
use Rattle.std.specs.Prelude.{◌≡◌, ◌≢◌, ℕ, length, Bool, true, false, ◌&&◌, ◌||◌, not, List, [], ◌∷◌, ◌++◌, map, Option, Some, None, is_some, if◌then◌else◌, bytes_eq, codes}
use Rattle.vba_base.specs.declared.place.Place.{Place}
use Rattle.vba_values.specs.Types.{Declared}
use Rattle.vba_lexer.specs.declared.token.Token.{Token}
use Rattle.vba_expression.specs.Tree.{Expr, Args}
use Rattle.vba_expression.specs.Nodes as nodes
use Rattle.vba_expression.specs.Nodes.{behind_nodes, last_tree}
use Rattle.vba_expression.specs.declared.node.ExpressionNode.{ExpressionNode}
use Rattle.vba_expression.specs.declared.node.ExpressionNode.TheVariants as node
use Rattle.bound_project.specs.declared.statement.ActionKind.{ActionKind}
use Rattle.bound_project.specs.View.{declared_view}
use Rattle.bound_project.specs.Bodies.{action_of}
use Rattle.bound_project.specs.Drafts.{Drafted, ActionNamed}
use Rattle.bound_project.specs.Expressions as bound
use Rattle.bound_project.specs.Lists.{above, exprs_of}
use Rattle.bound_project.specs.Pieces.{Piece, Tables, an_expr, name_in}
use Rattle.bound_project.specs.Project.{Declarations}
use Rattle.bound_members.specs.bound_calls.specs.bound_declarations.specs.constant_values.specs.declared_names.specs.binder.specs.Types.{is_object}
use Rattle.bound_members.specs.bound_calls.specs.bound_forms.specs.Terms.{Env}
use Rattle.bound_members.specs.bound_calls.specs.bound_forms.specs.Terms as plain
use Rattle.bound_members.specs.bound_calls.specs.bound_forms.specs.ClassDefaults.{declared_in}
use Rattle.bound_members.specs.bound_calls.specs.bound_forms.specs.Operands.{is_item_name, place_told}
use Rattle.bound_members.specs.bound_calls.specs.bound_forms.specs.ExpressionsBound.{callee, givens, takes_arguments, term_of}
use Rattle.bound_members.specs.bound_calls.specs.bound_forms.specs.Targets.{assigned, assigned_to, broken_target, has_written_default, is_given_with, is_no_target, is_written_member, member_written, takes_value, unwritten_rule}
use Rattle.bound_members.specs.bound_calls.specs.declared.term.MemberCall.{MemberCall}
use Rattle.bound_members.specs.bound_calls.specs.declared.term.Term.{Term}
use Rattle.bound_members.specs.bound_calls.specs.declared.term.Term.TheVariants as term
use Rattle.bound_members.specs.bound_calls.specs.declared.term.Tree.{Tree}
use Rattle.bound_members.specs.bound_calls.specs.declared.term.Item.TheVariants as item
use Rattle.bound_members.specs.bound_calls.specs.Standing.{MemberStands, TermStands, TreeStands, Grown, member_is}
use Rattle.bound_members.specs.bound_calls.specs.Steps.{Goes}
use Rattle.statement_terms.specs.Called.{ActionIs, IsBare, MayBe}
use Rattle.bound_members.specs.bound_calls.specs.bound_declarations.specs.constant_values.specs.declared_names.specs.binder.specs.Classes.{has_class}

-- Err, and what it does
abbrev pub is_err_term : Term → Bool
is_err_term term.Err = true
is_err_term term.ErrRaise = true
is_err_term term.ErrClear = true
is_err_term x = false

-- whether a member is written, by its name, the type of what it gives and the greatest number of its arguments
abbrev pub is_written : List ℕ → Declared → (greatest : Option ℕ) → Bool
is_written name of greatest = is_written_member (record { name = name; of = of; least = 0; greatest = greatest; late = false })

-- the rule that an assignment breaks to a member with arguments that it takes
abbrev pub taken_rule : plain.HostMember → Option ℕ
taken_rule m = if is_written_member m && has_written_default m.of then None else unwritten_rule m.of

-- what breaks this rule as a target was made of the value, the object and so many arguments, which were pushed
pub record WritesBroken (rule count : ℕ) (place : Place) (d e : Drafted) (kind : ActionKind) : Type 0 where
  pub grown : Grown d e
  pub named : ActionNamed e.tables kind
  pub does : (value object : bound.Expr) (es : List bound.Expr) → length es ≡ count → d.pieces ≡ above (map an_expr es) (an_expr object ∷ an_expr value ∷ [])
      → action_of e.tables kind e.pieces ≡ Some (broken_target rule place value (bound.also object (exprs_of es)))

-- ---- without arguments

-- a term at this place in the source is assigned the value that was pushed below it, which may be an object of a class or not,
-- and whether that comes as it is
pub record AssignsTerm (has : Bool) (may : Option Bool) (place : Place) (x : Term) (d e : Drafted) (kind : ActionKind) (given : Bool) : Type 0 where
  pub grown : Grown d e
  pub named : ActionNamed e.tables kind
  pub takes : (env : Env) (z : plain.Term) (ps below : List Piece) → TermStands env d.tables x z ps below → takes_value env z ≡ given
  pub stands : (env : Env) → has_class env.scope.spaces ≡ has → (z : plain.Term) (value : bound.Expr) → MayBe env may value → TermStands env d.tables x z d.pieces (an_expr value ∷ [])
      → ActionIs kind (assigned env place value [] z) e.tables e.pieces

-- the same of a place or a value, in a project that declares this
pub record AssignsIn (all : Declarations) (has : Bool) (may : Option Bool) (place : Place) (x : Term) (d e : Drafted) (kind : ActionKind) (given : Bool) : Type 0 where
  pub grown : Grown d e
  pub named : ActionNamed e.tables kind
  pub takes : (env : Env) (z : plain.Term) (ps below : List Piece) → TermStands env d.tables x z ps below → takes_value env z ≡ given
  pub stands : (env : Env) → has_class env.scope.spaces ≡ has → declared_in env.scope ≡ all → (z : plain.Term) (value : bound.Expr) → MayBe env may value → TermStands env d.tables x z d.pieces (an_expr value ∷ [])
      → ActionIs kind (assigned env place value [] z) e.tables e.pieces

-- the same of an expression that doesn't end with arguments in brackets, and is no Sub and no ParamArray
pub record AssignsTree (has : Bool) (may : Option Bool) (x : Tree) (d e : Drafted) (kind : ActionKind) (given : Bool) : Type 0 where
  pub grown : Grown d e
  pub named : ActionNamed e.tables kind
  pub takes : (env : Env) (tree : Expr) (below : List Piece) → IsBare tree → TreeStands env d.tables x tree d.pieces below → is_given_with env tree ≡ given
  pub stands : (env : Env) → has_class env.scope.spaces ≡ has → (tree : Expr) (value : bound.Expr) → MayBe env may value → IsBare tree → is_no_target env tree ≡ false → TreeStands env d.tables x tree d.pieces (an_expr value ∷ [])
      → ActionIs kind (assigned_to env tree value) e.tables e.pieces

-- ---- with arguments

-- arguments were read behind a member whose object was looked at
pub record ReadsOnto (env : Env) (x : MemberCall) (ns : List ExpressionNode) (d e : Drafted) (y : MemberCall) : Type 0 where
  pub behind : List ExpressionNode
  pub is : ns ≡ node.NoArguments ∷ behind
  pub goes : Goes env d (item.Member x ∷ []) e (item.Member y ∷ []) (λ is. behind_nodes is behind)
  pub no_property : y.of_property ≡ false

-- a member has some arguments, and what it gives is written
pub record IsWritten (t : Tables) (x : MemberCall) : Type 0 where
  pub some : x.count ≢ 0
  pub takes : takes_arguments (member_is t x.member) x.count ≡ true
  pub default : has_written_default (declared_view x.member.of) ≡ true
  pub written : (not (is_some x.member.greatest) || is_object (declared_view x.member.of) || is_item_name (name_in t x.member.name)) ≡ true

-- the run finds no such member, some of its arguments have names, and it gives something
pub record IsReadNamed (t : Tables) (x : MemberCall) : Type 0 where
  pub some : x.named ≢ 0
  pub early : x.member.is_late ≡ false
  pub gives : bytes_eq (name_in t x.member.name) (codes "raise") ≡ false

-- a member with its arguments is assigned the value below its object, which may be an object of a class or not
pub record WritesCall (may : Option Bool) (x : MemberCall) (d e : Drafted) (kind : ActionKind) : Type 0 where
  pub grown : Grown d e
  pub named : ActionNamed e.tables kind
  pub stands : (env : Env) (base : Expr) (args : Args) (value : bound.Expr) → MayBe env may value → (s : MemberStands env d.tables x base args d.pieces (an_expr value ∷ []))
      → ActionIs kind (member_written env (place_told base) s.object (member_is d.tables x.member) (givens env args) value) e.tables e.pieces

-- an expression that is a member with arguments is assigned the value below its object
pub record GivesMember (env : Env) (may : Option Bool) (place : Expr) (kind : ActionKind) (t : Tables) (ps below : List Piece) : Type 0 where
  pub given : is_given_with env place ≡ true
  pub does : (value : bound.Expr) → MayBe env may value → below ≡ an_expr value ∷ [] → ActionIs kind (assigned_to env place value) t ps

-- what is called is assigned a value with these arguments
pub record AssignsItem (env : Env) (may : Option Bool) (place : Place) (x : Term) (ns : List ExpressionNode) (d e : Drafted) (kind : ActionKind) : Type 0 where
  pub grown : Grown d e
  pub named : ActionNamed e.tables kind
  pub stands : (tree : Expr) (left right : Token) (below : List Piece) → place ≡ place_told tree → TermStands env d.tables x (callee env tree (term_of env tree)) d.pieces below
      → GivesMember env may (last_tree (behind_nodes (nodes.tree tree ∷ []) (ns ++ node.Index left right ∷ []))) kind e.tables e.pieces below
