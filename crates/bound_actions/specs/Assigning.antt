-- Serves the code: what is assigned to without a Let.
use Rattle.std.specs.Prelude.{◌≡◌, ◌||◌, ◌++◌, Bool, true, false, List, [], ◌∷◌, map, slice_get, Option, Some, None}
use Rattle.vba_base.specs.declared.place.Place.{Place}
use Rattle.vba_words.specs.declared.identifier.Identifier.{Identifier}
use Rattle.vba_expression.specs.Tree.{Expr}
use Rattle.vba_expression.specs.declared.node.ExpressionNode.{ExpressionNode}
use Rattle.bound_project.specs.declared.statement.ActionKind.{ActionKind}
use Rattle.bound_project.specs.Drafts.{ActionNamed, Drafted}
use Rattle.bound_project.specs.Expressions as bound
use Rattle.bound_project.specs.Pieces.{Piece, Tables, an_expr}
use Rattle.declared_names.specs.binder.specs.Scopes.{declares, plainly}
use Rattle.bound_terms.specs.bound_accesses.specs.bound_names.specs.bound_members.specs.bound_calls.specs.bound_forms.specs.Terms.{Env, a_host_member}
use Rattle.bound_terms.specs.bound_accesses.specs.bound_names.specs.bound_members.specs.bound_calls.specs.bound_forms.specs.Terms as plain
use Rattle.bound_terms.specs.bound_accesses.specs.bound_names.specs.bound_members.specs.bound_calls.specs.bound_forms.specs.Members.{item_of}
use Rattle.bound_terms.specs.bound_accesses.specs.bound_names.specs.bound_members.specs.bound_calls.specs.bound_forms.specs.Targets.{assigned_to, is_given_with, is_indexed_late, is_no_target, takes_value}
use Rattle.bound_terms.specs.bound_accesses.specs.bound_names.specs.bound_members.specs.bound_calls.specs.declared.term.Term.{Term}
use Rattle.bound_terms.specs.bound_accesses.specs.bound_names.specs.bound_members.specs.bound_calls.specs.declared.term.Tree.{Tree}
use Rattle.bound_terms.specs.bound_accesses.specs.bound_names.specs.bound_members.specs.bound_calls.specs.Standing.{Grown, TermStands, TreeStands}
use Rattle.bound_terms.specs.bound_accesses.specs.bound_names.specs.Callee.{NoWriter}
use Rattle.bound_project.specs.declared.declarations.Parameter.{Parameter}
use Rattle.bound_project.specs.View.{declarations_view, declared_view, parameter_view}
use Rattle.declared_names.specs.binder.specs.Signatures.{parameters_in}
use Rattle.declared_names.specs.binder.specs.Storage.{procedure_number}
use Rattle.declared_names.specs.binder.specs.Types.{is_object}
use Rattle.bound_terms.specs.bound_accesses.specs.bound_names.specs.declared.properties.Part.{Part}
use Rattle.bound_terms.specs.bound_accesses.specs.bound_names.specs.declared.properties.Writer.{Writer}
use Rattle.declared_names.specs.View.{space_view, written_view}
use Rattle.statement_terms.specs.declared.assigning.PropertyLet.{PropertyLet}
use Rattle.declared_names.specs.binder.specs.Classes.{has_class}
use Rattle.bound_terms.specs.bound_accesses.specs.bound_names.specs.declared.properties.Part.TheVariants as part
use Rattle.statement_terms.specs.Called.{ActionIs, Continues, IsBare, MayBe}
use Rattle.bound_terms.specs.bound_accesses.specs.Items.{ItemKept, lacks_item}
use Rattle.statement_terms.specs.Targets.{AssignsIndexed}
use Rattle.bound_actions.specs.NoTargets.{means_list}

-- the procedure that an assignment wants, and that a Set wants
abbrev pub part_for : (sets : Bool) → Part
part_for false = part.Let
part_for true = part.Set

-- a procedure that is given a value, and the parameters before its last one
pub record GivesProperty (env : Env) (sets : Bool) (w : Writer) (p : PropertyLet) (front : List Parameter) : Type 0 where
  pub last : Parameter
  pub receiver_is : p.receiver ≡ w.property.receiver
  pub number_is : p.procedure ≡ procedure_number env.scope (space_view w.property.space.now) w.number
  pub of_is : p.of ≡ last.of
  pub itself_is : p.is_itself ≡ (sets || is_object (declared_view last.of))
  pub parameters_are : slice_get env.scope.spaces (space_view w.property.space.now).number ≡ Some (space_view w.property.space.now)
      → map parameter_view (front ++ last ∷ []) ≡ parameters_in env.scope (space_view w.property.space.now) (written_view w.written)

-- whether a name, where there is one, means a ParamArray
abbrev pub named_list : Env → Option Identifier → Bool
named_list env None = false
named_list env (Some x) = means_list (declares plainly env.scope x)

-- an expression that doesn't end with arguments can't be assigned to, or it can
abbrev pub IsNoTarget : Env → Tree → Bool → Type 0
IsNoTarget env x none = (t : Tables) (tree : Expr) (ps below : List Piece) → IsBare tree → TreeStands env t x tree ps below → is_no_target env tree ≡ none

abbrev pub is_member : plain.Term → Bool
is_member (a_host_member e m) = true
is_member t = false

-- whether a term is a property that has a Let, which takes the value with arguments; it is no member of an object
abbrev pub TakesLet : Env → Term → Bool → Type 0
TakesLet env x given = (t : Tables) (y : plain.Term) (ps below : List Piece) → is_member y ≡ false → TermStands env t x y ps below → takes_value env y ≡ given

-- an expression that has no Let, is no Sub and no ParamArray, and doesn't end with arguments, is assigned the value that was
-- pushed below it, and whether that comes as it is
pub record AssignsOther (has : Bool) (may : Option Bool) (x : Tree) (d e : Drafted) (kind : ActionKind) (given : Bool) : Type 0 where
  pub grown : Grown d e
  pub named : ActionNamed e.tables kind
  pub takes : (env : Env) (tree : Expr) (below : List Piece) → NoWriter part.Let env.scope x.term → IsBare tree → TreeStands env d.tables x tree d.pieces below → is_given_with env tree ≡ given
  pub stands : (env : Env) → has_class env.scope.spaces ≡ has → (tree : Expr) (value : bound.Expr) → MayBe env may value → NoWriter part.Let env.scope x.term → IsBare tree → is_no_target env tree ≡ false → TreeStands env d.tables x tree d.pieces (an_expr value ∷ [])
      → ActionIs kind (assigned_to env tree value) e.tables e.pieces

-- whether a value comes as it is that is assigned to what brackets make of a term, in a project with a class or without; it is
-- no member
abbrev pub ItemGiven : (has : Bool) → Tables → Term → (given : Bool) → Type 0
ItemGiven has t x given =
    (env : Env) (place : Place) (z : plain.Term) (ps below : List Piece) → has_class env.scope.spaces ≡ has → ItemKept (lacks_item x) env place z → TermStands env t x z ps below
    → is_indexed_late env place (item_of env place z) ≡ given

-- what these nodes make of a tree, whose term is looked at as what is called, is assigned the value that was pushed below it
pub record AssignsItemOf (has : Bool) (env : Env) (x : Tree) (y : Term) (ns : List ExpressionNode) (d e : Drafted) (kind : ActionKind) (given : Bool) : Type 0 where
  pub more : Tree
  pub after : Drafted
  pub continues : Continues env x ns d after more
  pub assigns : (may : Option Bool) → AssignsIndexed (declarations_view more.declared.now) has may more.place more.term after e kind
  pub item : ItemGiven has d.tables y given
