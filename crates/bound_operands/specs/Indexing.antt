-- Serves the code: values that numbers or other arguments in brackets index.
use Rattle.std.specs.Prelude.{◌≡◌, ℕ, ◌==◌, Bool, true, false, ◌||◌, List, ◌∷◌, Some}
use Rattle.vba_base.specs.declared.place.Place.{Place}
use Rattle.vba_values.specs.Types as type
use Rattle.vba_expression.specs.Tree.{Expr, no_args}
use Rattle.vba_expression.specs.Nodes as nodes
use Rattle.bound_project.specs.declared.declared_type.DeclaredType.{DeclaredType}
use Rattle.bound_project.specs.declared.declared_type.DeclaredType.TheVariants.{Plain}
use Rattle.bound_project.specs.declared.declared_type.ElementType.TheVariants as element
use Rattle.bound_project.specs.View.{declared_view}
use Rattle.bound_project.specs.Expressions as bound
use Rattle.bound_project.specs.Pieces.{Piece, Tables, an_expr}
use Rattle.bound_project.specs.Drafts.{Drafted}
use Rattle.bound_members.specs.bound_calls.specs.bound_forms.specs.Terms.{Env, Given, expression_of}
use Rattle.bound_members.specs.bound_calls.specs.bound_forms.specs.Terms as plain
use Rattle.bound_members.specs.bound_calls.specs.bound_forms.specs.Operands.{element_type, place_told}
use Rattle.bound_members.specs.bound_calls.specs.bound_forms.specs.Members.{item_of}
use Rattle.bound_members.specs.bound_calls.specs.bound_forms.specs.ExpressionsBound.{callee, term_of}
use Rattle.bound_members.specs.bound_calls.specs.bound_forms.specs.Targets.{value_before}
use Rattle.bound_project.specs.declared.node.NodeKind.{NodeKind}
use Rattle.bound_members.specs.bound_calls.specs.bound_declarations.specs.constant_values.specs.declared_names.specs.binder.specs.Classes.{has_class}
use Rattle.bound_members.specs.bound_calls.specs.declared.term.Ending.{Ending}
use Rattle.bound_members.specs.bound_calls.specs.declared.term.Indexed.{Indexed}
use Rattle.bound_members.specs.bound_calls.specs.declared.term.Item.{Item}
use Rattle.bound_members.specs.bound_calls.specs.declared.term.Tree.{Tree}
use Rattle.bound_members.specs.bound_calls.specs.declared.term.Target.{Target}
use Rattle.bound_members.specs.bound_calls.specs.declared.term.Target.TheVariants as target
use Rattle.bound_members.specs.bound_calls.specs.declared.term.Term.{Term}
use Rattle.bound_members.specs.bound_calls.specs.declared.term.Term.TheVariants as term
use Rattle.bound_members.specs.bound_calls.specs.Taking.{read_kind}
use Rattle.bound_operands.specs.declared.indexing.WholePlace.{WholePlace}
use Rattle.bound_members.specs.bound_calls.specs.References.{IsFoundLate, NoInstance}
use Rattle.bound_members.specs.bound_calls.specs.Standing.{Base, Grown, IndexedStands, ItemNamed, Stands, TermStands, ValueEnds, ValueStands}

-- a place before brackets as a term, and what it has but for the last node
abbrev pub place_term : WholePlace → Term
place_term at = term.Place at.kind at.of at.bounds at.lends at.makes

abbrev pub read_ending : WholePlace → Ending
read_ending at = record { kind = read_kind at.makes; of = at.of }

-- what is indexed from a place on, of which no number has come; and a value that is
abbrev pub begun : Place → Target → DeclaredType → (lends makes : Bool) → (bounds : ℕ) → Indexed
begun place t of lends makes bounds = record { place = place; target = t; of = of; lends = lends; makes = makes; bounds = bounds; count = 0 }

abbrev pub whole_of : Place → Target → DeclaredType → Indexed
whole_of place t of = begun place t of false false 0

-- an element of a place, by its last node, and whether that is of as many numbers as an array is declared with bounds
abbrev pub place_element : Indexed → NodeKind → Term
place_element x kind = term.Place kind x.of 0 x.lends x.makes

abbrev pub fits_count : (bounds count : ℕ) → Bool
fits_count bounds count = (bounds == 0) || (count == bounds)

-- arguments behind a term are those behind another one: itself, or behind a property without parameters what it gives
abbrev pub IsBefore : (of_property : Bool) → Env → Place → (t behind : plain.Term) → Type 0
IsBefore false env place t behind = t ≡ behind
IsBefore true env place t behind = (g : Given) (gs : List Given) → value_before env place (g ∷ gs) t ≡ item_of env place behind

-- arguments begin of a term, with nothing pushed before: behind it, or behind a property that gave it
pub record OpensBehind (of_property : Bool) (env : Env) (x : Tree) (y : Term) (d e : Drafted) (i : Item) : Type 0 where
  pub grown : Grown d e
  pub named : ItemNamed e.tables i
  pub stands : (tree : Expr) (items : List Item) (is : List nodes.Item) (below : List Piece) (base : Base) (z : plain.Term) → x.place ≡ place_told tree → IsBefore of_property env (place_told tree) (callee env tree (term_of env tree)) z
      → TermStands env d.tables y z d.pieces below → Stands env e.tables items is below base → Stands env e.tables (i ∷ items) (nodes.arguments no_args ∷ nodes.tree tree ∷ is) e.pieces base

-- a value whose last node isn't pushed is no object of a class, and its elements have a type
pub record HasElements (has : Bool) (t : Tables) (e : Ending) (of : DeclaredType) : Type 0 where
  pub none : NoInstance has t e
  pub element_is : element_type (declared_view e.of) ≡ Some (declared_view of)

-- arguments lead on in it as the run says
pub record LeadsAlong (has : Bool) (t : Tables) (e : Ending) (of : DeclaredType) : Type 0 where
  pub late : IsFoundLate has t e true
  pub of_is : declared_view of ≡ type.variant

-- whether they do from what is indexed
abbrev pub is_along : Target → Bool
is_along target.PlaceAlong = true
is_along target.ValueAlong = true
is_along target.ValueAsPlace = true
is_along x = false

-- and whether they do so by what the default member of a class says
abbrev pub is_led : Target → Bool
is_led (target.PlaceLed count) = true
is_led (target.ValueLed count) = true
is_led (target.LedAsPlace count) = true
is_led x = false

-- what arguments index in a value, and the type of that
abbrev pub HowIndexed : (has : Bool) → Tables → Ending → Target → DeclaredType → Type 0
HowIndexed has t e target.Value of = HasElements has t e of
HowIndexed has t e target.ValueAlong of = LeadsAlong has t e of
HowIndexed has t e x of = ⊥

-- a value was pushed, which arguments index
pub record PushesWhole (has : Bool) (ending : Ending) (place : Place) (d e : Drafted) (x : Indexed) : Type 0 where
  pub grown : Grown d e
  pub is : x ≡ whole_of place x.target x.of
  pub how : HowIndexed has d.tables ending x.target x.of
  pub stands : (made : bound.Node) (below : List Piece) → ValueEnds d.tables ending.kind made d.pieces below → e.pieces ≡ an_expr (expression_of made place (declared_view ending.of)) ∷ below

-- a value was pushed, for arguments that are to lead on
pub record PushesAlong (ending : Ending) (place : Place) (d e : Drafted) (x : Indexed) : Type 0 where
  pub grown : Grown d e
  pub is : x ≡ whole_of place target.ValueAlong x.of
  pub of_is : declared_view x.of ≡ type.variant
  pub stands : (made : bound.Node) (below : List Piece) → ValueEnds d.tables ending.kind made d.pieces below → e.pieces ≡ an_expr (expression_of made place (declared_view ending.of)) ∷ below

-- a value was pushed as a place, from which arguments lead on to what is assigned to
pub record PushesAsPlace (ending : Ending) (place : Place) (d e : Drafted) (x : Indexed) : Type 0 where
  pub grown : Grown d e
  pub is : x ≡ whole_of place target.ValueAsPlace (Plain element.Variant)
  pub stands : (env : Env) → IsFoundLate (has_class env.scope.spaces) d.tables ending true → (tree : Expr) (below : List Piece) → place ≡ place_told tree
      → ValueStands d.tables ending (callee env tree (term_of env tree)) d.pieces below → IndexedStands env x tree no_args e.pieces below
