-- Serves the code: what a ReDim resizes, and its bounds.
use Rattle.std.specs.Prelude.{◌≡◌, ℕ, Bool, false, List, ◌∷◌, Option, Some, None, if◌then◌else◌}
use Rattle.vba_base.specs.declared.place.Place.{Place}
use Rattle.vba_values.specs.Types.{Declared}
use Rattle.vba_expression.specs.Tree.{Expr}
use Rattle.bound_project.specs.declared.declared_type.DeclaredType.{DeclaredType}
use Rattle.bound_project.specs.Drafts.{Drafted}
use Rattle.bound_project.specs.Expressions.{Lvalue, kept_place, Exprs, no_exprs}
use Rattle.bound_project.specs.Pieces.{Piece, a_place, exprs_off}
use Rattle.bound_project.specs.View.{declared_view}
use Rattle.bound_calls.specs.bound_forms.specs.Terms.{Env}
use Rattle.bound_calls.specs.bound_forms.specs.Terms as terms
use Rattle.bound_calls.specs.bound_forms.specs.Operands.{place_told}
use Rattle.bound_calls.specs.bound_forms.specs.ExpressionsBound.{term_of}
use Rattle.bound_calls.specs.bound_forms.specs.StatementsBound.{last_broken, may_resize, resized_place}
use Rattle.bound_calls.specs.Standing.{Grown}
use Rattle.statement_nodes.specs.Actions.{OnlyPieces}

-- whether a place gets such elements, which its type says, whatever place it is; without a type there is none
abbrev pub is_resized : Option DeclaredType → Option Declared → Bool
is_resized None written = false
is_resized (Some of) written = may_resize (terms.a_place (kept_place 0) (declared_view of) 0 false false) written

-- what an expression resizes was pushed, told at this place, and whether that gets others; a variable of an object that the
-- run finds is resized as a Variant is
pub record ArrayTold (env : Env) (tree : Expr) (of : Option DeclaredType) (place : Place) (d e : Drafted) : Type 0 where
  pub grown : Grown d e
  pub at : Lvalue
  pub is : resized_place (place_told tree) (term_of env tree) ≡ at
  pub resizes : (written : Option Declared) → may_resize (term_of env tree) written ≡ is_resized of written
  pub place_is : place ≡ place_told tree
  pub on_top : e.pieces ≡ a_place at ∷ d.pieces

-- so many bounds were pushed, and the last one marked where such a place doesn't get elements of the written type
pub record MarksBounds (of : Option DeclaredType) (written : Option Declared) (place : Place) (count : ℕ) (d e : Drafted) : Type 0 where
  pub same : OnlyPieces d e
  pub stands : (es : Exprs) (below : List Piece) → exprs_off count d.pieces no_exprs ≡ Some (es, below)
      → exprs_off count e.pieces no_exprs ≡ Some (if is_resized of written then es else last_broken place es, below)
