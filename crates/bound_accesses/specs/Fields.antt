-- Serves the code: fields of user types, and what a With block keeps.
use Rattle.std.specs.Prelude.{◌≡◌, ℕ, ◌==◌, Bool, false, not, length, List, ◌∷◌, Option, Some, None, bytes_eq}
use Rattle.vba_base.specs.declared.place.Place.{Place}
use Rattle.vba_words.specs.declared.identifier.Identifier.{Identifier}
use Rattle.bound_project.specs.declared.declared_type.DeclaredType.{DeclaredType}
use Rattle.bound_project.specs.declared.declared_type.DeclaredType.TheVariants.{Plain}
use Rattle.bound_project.specs.declared.declared_type.ElementType.TheVariants as element
use Rattle.bound_project.specs.declared.node.NodeKind.TheVariants as kinds
use Rattle.bound_project.specs.View.{declared_view}
use Rattle.bound_project.specs.Expressions.{Lvalue}
use Rattle.bound_project.specs.Expressions as expressions
use Rattle.bound_project.specs.Project.{Declaration}
use Rattle.bound_project.specs.Pieces.{Piece, Tables, an_expr, a_place}
use Rattle.bound_project.specs.Drafts.{Drafted}
use Rattle.bound_names.specs.bound_members.specs.bound_calls.specs.bound_forms.specs.Terms.{Env, expression_of, read_of}
use Rattle.bound_names.specs.bound_members.specs.bound_calls.specs.bound_forms.specs.Terms as plain
use Rattle.bound_names.specs.bound_members.specs.bound_calls.specs.bound_forms.specs.Members.{behind_alone, field_of_place, field_of_value, kept_member, member_of, unknown_member}
use Rattle.bound_accesses.specs.declared.fields.Field.{Field}
use Rattle.bound_accesses.specs.Items.{may_be_class}
use Rattle.bound_names.specs.bound_members.specs.bound_calls.specs.declared.term.Term.{Term}
use Rattle.bound_names.specs.bound_members.specs.bound_calls.specs.declared.term.Term.TheVariants as term
use Rattle.bound_names.specs.bound_members.specs.bound_calls.specs.declared.term.Ending.{Ending}
use Rattle.bound_names.specs.bound_members.specs.bound_calls.specs.Standing.{PlaceEnds, TermStands, TermNamed, Grown}

-- the number of the user type that a type is
abbrev pub user_type_in : DeclaredType → Option ℕ
user_type_in (Plain (element.UserType number)) = Some number
user_type_in of = None

abbrev pub is_field_named : Identifier → Declaration → Bool
is_field_named x d = bytes_eq d.name.fold x.name

-- a field that was found
pub record FieldFound (found : Option (ℕ × Declaration)) (field : Field) : Type 0 where
  pub declaration : Declaration
  pub is : found ≡ Some (field.number, declaration)
  pub of_is : declaration.of ≡ declared_view field.of
  pub bounds_are : length declaration.bounds ≡ field.bounds

-- the same, or there is none
abbrev pub FieldIs : Option (ℕ × Declaration) → Option Field → Type 0
FieldIs found None = found ≡ None
FieldIs found (Some field) = FieldFound found field

-- the field of a place, and of a value, if there is one
abbrev pub place_found : Option Field → (lends : Bool) → Option Term
place_found None lends = None
place_found (Some x) lends = Some (term.Place (kinds.Field x.number x.of (not (x.bounds == 0))) x.of x.bounds lends false)

abbrev pub value_found : Option Field → Option Term
value_found None = None
value_found (Some x) = Some (term.Value (record { kind = kinds.FieldValue x.number; of = x.of }))

-- a field of a place, and of a value, that was pushed
pub record MakesField (env : Env) (of : DeclaredType) (lends : Bool) (f : Identifier) (x : Term) : Type 0 where
  pub named : (t : Tables) → TermNamed t x
  pub stands : (t : Tables) (place dot : Place) (at : Lvalue) (makes : Bool) (below : List Piece) → TermStands env t x (field_of_place env place dot at (declared_view of) lends makes f) (a_place at ∷ below) below

pub record MakesFieldValue (env : Env) (of : DeclaredType) (f : Identifier) (x : Term) : Type 0 where
  pub named : (t : Tables) → TermNamed t x
  pub stands : (t : Tables) (place dot : Place) (made : expressions.Node) (below : List Piece)
      → TermStands env t x (field_of_value env place dot made (declared_view of) f) (an_expr (expression_of made place (declared_view of)) ∷ below) below

-- there is no such field
pub record LacksField (env : Env) (of : DeclaredType) (f : Identifier) : Type 0 where
  pub place : (place dot : Place) (at : Lvalue) (lends makes : Bool) → field_of_place env place dot at (declared_view of) lends makes f ≡ unknown_member dot (expression_of (read_of makes at) place (declared_view of))
  pub value : (place dot : Place) (made : expressions.Node) → field_of_value env place dot made (declared_view of) f ≡ unknown_member dot (expression_of made place (declared_view of))

abbrev pub FieldOrNone : Env → DeclaredType → Bool → Identifier → Option Term → Type 0
FieldOrNone env of lends f None = LacksField env of f
FieldOrNone env of lends f (Some x) = MakesField env of lends f x

abbrev pub ValueOrNone : Env → DeclaredType → Identifier → Option Term → Type 0
ValueOrNone env of f None = LacksField env of f
ValueOrNone env of f (Some x) = MakesFieldValue env of f x

-- a field of a place, which is pushed, or what is told where there is none
pub record PlacesField (env : Env) (place dot : Place) (at : Ending) (lends makes : Bool) (f : Identifier) (d e : Drafted) (x : Term) : Type 0 where
  pub grown : Grown d e
  pub named : TermNamed e.tables x
  pub stands : (y : Lvalue) (below : List Piece) → PlaceEnds d.tables at.kind y d.pieces below → TermStands env e.tables x (field_of_place env place dot y (declared_view at.of) lends makes f) e.pieces below

-- a field of what the With block round an expression keeps
pub record KeepsField (env : Env) (place : Place) (f : Identifier) (d e : Drafted) (x : Term) : Type 0 where
  pub grown : Grown d e
  pub named : TermNamed e.tables x
  pub stands : TermStands env e.tables x (kept_member env place env.within f) e.pieces d.pieces

-- what stands behind a dot, behind a place or a value that begins at a place
pub record MakesBehind (env : Env) (place dot : Place) (x : Term) (f : Identifier) (d e : Drafted) (y : Term) : Type 0 where
  pub grown : Grown d e
  pub named : TermNamed e.tables y
  pub stands : (z : plain.Term) (below : List Piece) → TermStands env d.tables x z d.pieces below → TermStands env e.tables y (behind_alone env place dot z f) e.pieces below
  pub there : (z : plain.Term) (below : List Piece) → TermStands env d.tables x z d.pieces below → may_be_class z ≡ false

-- the same behind any term
pub record MakesBehindTerm (env : Env) (place dot : Place) (x : Term) (f : Identifier) (d e : Drafted) (y : Term) : Type 0 where
  pub grown : Grown d e
  pub named : TermNamed e.tables y
  pub stands : (z : plain.Term) (below : List Piece) → TermStands env d.tables x z d.pieces below → TermStands env e.tables y (member_of env place dot z f) e.pieces below
  pub there : (z : plain.Term) (below : List Piece) → TermStands env d.tables x z d.pieces below → may_be_class z ≡ false
