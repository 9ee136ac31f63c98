-- Serves the code: places that With keeps.
use Rattle.std.specs.Prelude.{◌≡◌, false, List, ◌∷◌, Option, Some, None, Bool, true}
use Rattle.bound_project.specs.declared.declared_type.DeclaredType.{DeclaredType}
use Rattle.bound_project.specs.declared.node.NodeKind.{NodeKind}
use Rattle.bound_project.specs.Expressions.{Lvalue}
use Rattle.bound_project.specs.Pieces.{Piece, a_place}
use Rattle.bound_project.specs.Drafts.{Drafted}
use Rattle.bound_members.specs.bound_calls.specs.declared.term.Ending.{Ending}
use Rattle.bound_members.specs.bound_calls.specs.declared.term.Term.{Term}
use Rattle.bound_members.specs.bound_calls.specs.declared.term.Term.TheVariants as term
use Rattle.bound_members.specs.bound_calls.specs.Standing.{PlaceEnds, Grown}
use Rattle.statement_terms.specs.Terms.{may_be_object}
use Rattle.bound_project.specs.declared.node.NodeKind.TheVariants as node

-- the place that a term is, but for its last node
abbrev pub place_ending : Term → Option Ending
place_ending (term.Place kind of bounds lends makes) = Some (record { kind = kind; of = of })
place_ending x = None

-- whether a term is lent to a ByRef parameter
abbrev pub lends : Term → Bool
lends (term.Place kind of bounds is_lent makes) = is_lent
lends x = false

-- whether a place is a variable of another object, by its last node
abbrev pub is_of_object : NodeKind → Bool
is_of_object (node.ObjectField i of bounded) = true
is_of_object kind = false

-- a place that With keeps was pushed
pub record WithPlacePushed (kind : NodeKind) (of : DeclaredType) (d e : Drafted) : Type 0 where
  pub grown : Grown d e
  pub plain : may_be_object of ≡ false
  pub stands : (at : Lvalue) (below : List Piece) → PlaceEnds d.tables kind at d.pieces below → e.pieces ≡ a_place at ∷ below
