-- Serves the code: terms that are taken as references to objects.
use Rattle.std.specs.Prelude.{◌≡◌, ℕ, Bool, true, false, ◌||◌, ◌&&◌, List, ◌∷◌, Option, Some, None, option_and_then, option_map, not, is_some, if◌then◌else◌}
use Rattle.vba_base.specs.declared.place.Place.{Place}
use Rattle.vba_expression.specs.Tree.{Expr}
use Rattle.bound_project.specs.declared.declared_type.DeclaredType.{DeclaredType}
use Rattle.bound_project.specs.declared.node.NodeKind.{NodeKind}
use Rattle.bound_project.specs.declared.node.NodeKind.TheVariants as node
use Rattle.bound_project.specs.View.{declared_view}
use Rattle.bound_project.specs.Expressions.{host_object}
use Rattle.bound_project.specs.Expressions as bound
use Rattle.bound_project.specs.Pieces.{Piece, Tables, an_expr, name_in}
use Rattle.bound_project.specs.Drafts.{Drafted, NodeNamed}
use Rattle.bound_declarations.specs.constant_values.specs.declared_names.specs.binder.specs.Constants.{is_variant}
use Rattle.bound_declarations.specs.constant_values.specs.declared_names.specs.binder.specs.Options.{or_else}
use Rattle.bound_forms.specs.Terms.{Env, err_object, expression_of, read_as, typed_value}
use Rattle.bound_forms.specs.Terms as plain
use Rattle.bound_forms.specs.Operands.{may_give_object, has_object, host_kind, default_rule, reference_of, given_as, place_told, class_given_way, default_value, is_found_late, is_item_name, is_reference_type, may_be_instance, plain_operand, typed_reference}
use Rattle.bound_forms.specs.ExpressionsBound.{if_any, term_of}
use Rattle.bound_forms.specs.ClassDefaults as plain_defaults
use Rattle.bound_project.specs.Project.{Declarations}
use Rattle.vba_values.specs.declared.object.HostRef.TheVariants as host
use Rattle.vba_values.specs.Types as type
use Rattle.class_defaults.specs.Known.{known_view}
use Rattle.class_defaults.specs.declared.known.Known.{Known}
use Rattle.class_defaults.specs.declared.known.Known.TheVariants as known
use Rattle.bound_calls.specs.declared.term.Ending.{Ending}
use Rattle.bound_calls.specs.declared.term.Term.{Term}
use Rattle.bound_calls.specs.declared.term.Term.TheVariants as term
use Rattle.bound_calls.specs.declared.term.Tree.{Tree}
use Rattle.bound_calls.specs.Standing.{ValueEnds, TermStands, TreeStands, EndingIs, PushedIs, Grown}
use Rattle.bound_project.specs.declared.declared_type.DeclaredType.TheVariants.{Plain}
use Rattle.bound_project.specs.declared.declared_type.ElementType.TheVariants as element
use Rattle.bound_declarations.specs.constant_values.specs.declared_names.specs.binder.specs.Classes.{has_class}

-- a type of what is taken as a reference, or of what may be an object
abbrev pub is_referring : DeclaredType → Bool
is_referring of = is_reference_type (declared_view of) || is_variant (declared_view of)

-- a term that stands alone and is taken as a reference, and is no value; one that may be taken as a reference; and one that
-- gives way to its default member's value as an operand
abbrev pub refers : Term → Bool
refers (term.Place kind of bounds lends makes) = is_reference_type (declared_view of)
refers (term.Value e) = is_reference_type (declared_view e.of)
refers term.Err = true
refers x = false

abbrev pub may_refer : Term → Bool
may_refer (term.Place kind of bounds lends makes) = is_referring of
may_refer (term.Value e) = is_referring e.of
may_refer term.Err = true
may_refer x = false

abbrev pub gives_way : Term → Bool
gives_way term.Err = false
gives_way x = refers x

-- ---- what may be an object

-- whether a Variant may be an object, by the last node of what gives it
abbrev pub kind_gives : NodeKind → Option Bool
kind_gives node.Load = Some true
kind_gives node.LoadMade = Some true
kind_gives (node.Method p count) = Some true
kind_gives (node.MethodInOrder p count order) = Some true
kind_gives (node.ElementValue count) = Some true
kind_gives (node.FieldValue i) = Some true
kind_gives (node.Call p count) = Some true
kind_gives (node.CallInOrder p count order) = Some true
kind_gives (node.HostMember i count) = Some true
kind_gives (node.NamedMember i by count) = Some true
kind_gives (node.LateMember m) = Some true
kind_gives (node.ItemAlong count) = Some true
kind_gives (node.Library f text_form count compare one) = Some (may_give_object f)
kind_gives (node.Marked broken count) = Some true
kind_gives (node.Constant i) = Some false
kind_gives (node.Unary o of) = Some false
kind_gives (node.Binary o compare left right) = Some false
kind_gives (node.ErrValue _) = Some false
kind_gives node.Same = Some false
kind_gives (node.HostObject reference) = Some false
kind_gives node.ActiveSheet = Some false
kind_gives kind = None

-- whether a value whose last node isn't pushed is a Variant that may be an object
abbrev pub EndingGives : Ending → Bool → Type 0
EndingGives e gives = (t : Tables) (made : bound.Node) (ps below : List Piece) → ValueEnds t e.kind made ps below → has_object made (declared_view e.of) ≡ gives

-- what a node gives is an object of the host, but for an item, or Nothing, or breaks a rule
abbrev pub is_of_host_kind : Tables → NodeKind → Bool
is_of_host_kind t (node.Constant i) = true
is_of_host_kind t (node.HostObject reference) = true
is_of_host_kind t (node.HostMember i count) = not (is_item_name (name_in t i))
is_of_host_kind t (node.NamedMember i by count) = not (is_item_name (name_in t i))
is_of_host_kind t (node.Marked broken count) = true
is_of_host_kind t kind = false

-- whether a value may be an object of a class, by its last node and its type; where that isn't known it may
abbrev pub unknown_may : Option Bool → Bool
unknown_may None = true
unknown_may (Some gives) = gives

abbrev pub instance_at : NodeKind → DeclaredType → Bool
instance_at kind (Plain element.Object) = true
instance_at kind (Plain (element.Class number)) = true
instance_at kind (Plain element.Variant) = unknown_may (kind_gives kind)
instance_at kind of = false

abbrev pub may_be_instance_by : (has : Bool) → Tables → Ending → Bool
may_be_instance_by has t e = has && (instance_at e.kind e.of && not (is_of_host_kind t e.kind))

-- whether a node ends a value, of which it is known whether it is the host's
abbrev pub ends_known : NodeKind → Bool
ends_known node.This = true
ends_known (node.NewObject c) = true
ends_known kind = is_some (kind_gives kind)

-- whether a value may be an object that may be one of a class, where that is known
abbrev pub known_object : NodeKind → Option Bool
known_object kind = if ends_known kind then Some true else None

abbrev pub known_instance : NodeKind → DeclaredType → Option Bool
known_instance kind (Plain element.Object) = known_object kind
known_instance kind (Plain (element.Class number)) = known_object kind
known_instance kind (Plain element.Variant) = kind_gives kind
known_instance kind of = Some false

-- whether there may be an object of a class of a value whose last node isn't pushed, in a project with a class or without
abbrev pub IsInstance : (has : Bool) → Tables → Ending → (may : Bool) → Type 0
IsInstance has t e may = (env : Env) (made : bound.Node) (place : Place) (ps below : List Piece) → has_class env.scope.spaces ≡ has → ValueEnds t e.kind made ps below
    → may_be_instance env (expression_of made place (declared_view e.of)) ≡ may

-- whether the run says what members such a value has
abbrev pub IsFoundLate : (has : Bool) → Tables → Ending → (late : Bool) → Type 0
IsFoundLate has t e late = (env : Env) (made : bound.Node) (place : Place) (ps below : List Piece) → has_class env.scope.spaces ≡ has → ValueEnds t e.kind made ps below
    → is_found_late env (expression_of made place (declared_view e.of)) ≡ late

-- no value whose last node isn't pushed is an object of a class, in a project with a class or without
abbrev pub NoInstance : (has : Bool) → Tables → Ending → Type 0
NoInstance has t e = (env : Env) (made : bound.Node) (place : Place) (ps below : List Piece) → has_class env.scope.spaces ≡ has → ValueEnds t e.kind made ps below
    → may_be_instance env (expression_of made place (declared_view e.of)) ≡ false

-- the last nodes of values, but for those of the objects that are always there
abbrev pub is_typed_kind : NodeKind → Bool
is_typed_kind (node.Constant i) = true
is_typed_kind node.Load = true
is_typed_kind node.LoadMade = true
is_typed_kind node.This = true
is_typed_kind (node.NewObject c) = true
is_typed_kind (node.ElementValue count) = true
is_typed_kind (node.FieldValue i) = true
is_typed_kind (node.Unary o of) = true
is_typed_kind (node.Binary o compare left right) = true
is_typed_kind (node.Call p count) = true
is_typed_kind (node.CallInOrder p count order) = true
is_typed_kind (node.Method p count) = true
is_typed_kind (node.MethodInOrder p count order) = true
is_typed_kind (node.ErrValue _) = true
is_typed_kind (node.Library f text_form count compare one) = true
is_typed_kind (node.Marked broken count) = true
is_typed_kind node.Same = true
is_typed_kind (node.IsType of) = true
is_typed_kind node.ActiveSheet = true
is_typed_kind (node.HostMember i count) = true
is_typed_kind (node.NamedMember i by count) = true
is_typed_kind (node.LateMember m) = true
is_typed_kind (node.ItemAlong count) = true
is_typed_kind k = false

-- the rule that an object breaks where it gives way to the value of its default member, which isn't that of a class: of one
-- that is always there by which it is, and else by its type
pub record DefaultBreaks (e : Ending) (rule : Option ℕ) : Type 0 where
  pub breaks : (t : Tables) (made : bound.Node) (ps below : List Piece) → ValueEnds t e.kind made ps below → default_rule (host_kind made (declared_view e.of)) ≡ rule

-- what is known by that rule: where it breaks none the run says of what type the value is
abbrev pub by_rule : Option ℕ → plain_defaults.Known
by_rule None = plain_defaults.known type.variant
by_rule (Some rule) = plain_defaults.breaks rule

-- what is known of the value to which an object gives way whose last node isn't pushed
pub record DefaultIs (d : Declarations) (e : Ending) (found : Known) : Type 0 where
  pub is : (t : Tables) (made : bound.Node) (ps below : List Piece) → ValueEnds t e.kind made ps below → (place at : Place)
      → default_value d place (expression_of made at (declared_view e.of)) ≡ class_given_way (known_view found) place (expression_of made at (declared_view e.of))

-- the node with which an object gives way, or is marked, and the type that then stands there
abbrev pub default_ending : Known → Place → Option Ending
default_ending (known.Type of) place = Some (record { kind = node.DefaultOf; of = of })
default_ending (known.Breaks rule) place = Some (record { kind = node.Marked (record { rule = rule; place = place }) 1; of = Plain element.Variant })
default_ending known.NotSaid place = None

-- the last node of a value is pushed, and what stands behind it
pub record PushesAs (wrap : bound.Expr → bound.Expr) (v : Ending) (place : Place) (d e : Drafted) (of : DeclaredType) : Type 0 where
  pub grown : Grown d e
  pub stands : (made : bound.Node) (below : List Piece) → ValueEnds d.tables v.kind made d.pieces below → PushedIs of (Some (wrap (expression_of made place (declared_view v.of)))) e.pieces below

-- ---- references

-- what a term that stands alone is as a reference
abbrev pub read_reference : plain.Term → Place → Option bound.Expr
read_reference err_object place = Some (expression_of (host_object host.ErrObject) place type.object)
read_reference y place = read_as typed_reference y place

pub record TakesReference (x : Term) (place : Place) (d e : Drafted) (ending : Ending) : Type 0 where
  pub grown : Grown d e
  pub named : NodeNamed e.tables ending.kind
  pub stands : (env : Env) (y : plain.Term) (below : List Piece) → TermStands env d.tables x y d.pieces below → EndingIs e.tables ending place (read_reference y place) e.pieces below

-- what one that isn't Err is as an operand, where this is declared
abbrev pub read_operand : Declarations → plain.Term → Place → Option bound.Expr
read_operand known y place = or_else (option_map plain_operand (read_as typed_value y place)) (option_and_then (default_value known place) (read_as typed_reference y place))

pub record PushesStanding (known : Declarations) (x : Term) (place : Place) (d e : Drafted) (of : DeclaredType) : Type 0 where
  pub grown : Grown d e
  pub stands : (env : Env) (y : plain.Term) (below : List Piece) → TermStands env d.tables x y d.pieces below → PushedIs of (read_operand known y place) e.pieces below

-- a reference that was pushed, by its type
pub record ReferenceIs (of : DeclaredType) (found : Option bound.Expr) (ps below : List Piece) : Type 0 where
  pub made : bound.Node
  pub place : Place
  pub is : found ≡ Some (expression_of made place (declared_view of))
  pub on_top : ps ≡ an_expr (expression_of made place (declared_view of)) ∷ below

pub record PushesReference (x : Tree) (d e : Drafted) (of : DeclaredType) : Type 0 where
  pub grown : Grown d e
  pub stands : (env : Env) (tree : Expr) (below : List Piece) → TreeStands env d.tables x tree d.pieces below
      → ReferenceIs of (reference_of env (term_of env tree) (place_told tree)) e.pieces below

-- a term is taken as it is at a place
pub record TakesGiven (x : Term) (place : Place) (d e : Drafted) (ending : Ending) : Type 0 where
  pub grown : Grown d e
  pub named : NodeNamed e.tables ending.kind
  pub stands : (env : Env) (y : plain.Term) (below : List Piece) → TermStands env d.tables x y d.pieces below → EndingIs e.tables ending place (given_as env y place) e.pieces below

-- the same of one that stands alone
abbrev pub read_given : plain.Term → Place → Option bound.Expr
read_given y place = or_else (read_as typed_value y place) (read_reference y place)

pub record ReadsGiven (x : Term) (place : Place) (d e : Drafted) (ending : Ending) : Type 0 where
  pub grown : Grown d e
  pub named : NodeNamed e.tables ending.kind
  pub stands : (env : Env) (y : plain.Term) (below : List Piece) → TermStands env d.tables x y d.pieces below → EndingIs e.tables ending place (read_given y place) e.pieces below

-- an expression is pushed as it is
pub record PushesGiven (x : Tree) (d e : Drafted) (of : DeclaredType) : Type 0 where
  pub grown : Grown d e
  pub stands : (env : Env) (tree : Expr) (below : List Piece) → TreeStands env d.tables x tree d.pieces below
      → PushedIs of (given_as env (term_of env tree) (place_told tree)) e.pieces below

-- the same, but the value of an object's default member where that needs no argument
pub record PushesIfAny (x : Tree) (d e : Drafted) (of : DeclaredType) : Type 0 where
  pub grown : Grown d e
  pub stands : (env : Env) (tree : Expr) (below : List Piece) → TreeStands env d.tables x tree d.pieces below
      → PushedIs of (option_map if_any (given_as env (term_of env tree) (place_told tree))) e.pieces below
