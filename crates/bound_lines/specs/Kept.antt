-- Serves the code: what With keeps, and what ReDim and Erase name.
use Rattle.std.specs.Prelude.{◌≡◌, ℕ, Bool, true, false, not, List, ◌∷◌, Option, Some, None, if◌then◌else◌}
use Rattle.vba_base.specs.declared.place.Place.{Place}
use Rattle.vba_values.specs.Types.{Declared}
use Rattle.vba_expression.specs.Tree.{Expr}
use Rattle.bound_project.specs.declared.declared_type.DeclaredType.{DeclaredType}
use Rattle.bound_project.specs.declared.declared_type.DeclaredType.TheVariants.{Plain}
use Rattle.bound_project.specs.declared.declared_type.ElementType.TheVariants.{Variant}
use Rattle.bound_project.specs.declared.node.NodeKind.TheVariants as node
use Rattle.bound_project.specs.Expressions as bound
use Rattle.bound_project.specs.Expressions.{no_exprs, value_place}
use Rattle.bound_project.specs.Pieces.{Piece, a_place}
use Rattle.bound_project.specs.Drafts.{Drafted}
use Rattle.bound_project.specs.View.{declared_view}
use Rattle.bound_terms.specs.bound_accesses.specs.bound_names.specs.bound_members.specs.bound_calls.specs.bound_forms.specs.Terms.{Env, broken_rule, expression_of}
use Rattle.bound_terms.specs.bound_accesses.specs.bound_names.specs.bound_members.specs.bound_calls.specs.bound_forms.specs.Terms as plain
use Rattle.bound_terms.specs.bound_accesses.specs.bound_names.specs.bound_members.specs.bound_calls.specs.bound_forms.specs.Operands.{place_told}
use Rattle.bound_terms.specs.bound_accesses.specs.bound_names.specs.bound_members.specs.bound_calls.specs.bound_forms.specs.ExpressionsBound.{term_of}
use Rattle.bound_terms.specs.bound_accesses.specs.bound_names.specs.bound_members.specs.bound_calls.specs.bound_forms.specs.StatementsBound.{keeps, may_resize, resized_place}
use Rattle.bound_terms.specs.bound_accesses.specs.bound_names.specs.declared.env.Within.{Within}
use Rattle.bound_terms.specs.bound_accesses.specs.bound_names.specs.bound_members.specs.bound_calls.specs.declared.term.Ending.{Ending}
use Rattle.bound_terms.specs.bound_accesses.specs.bound_names.specs.bound_members.specs.bound_calls.specs.declared.term.HostMember.{HostMember}
use Rattle.bound_terms.specs.bound_accesses.specs.bound_names.specs.bound_members.specs.bound_calls.specs.declared.term.Term.{Term}
use Rattle.bound_terms.specs.bound_accesses.specs.bound_names.specs.bound_members.specs.bound_calls.specs.declared.term.Term.TheVariants as term
use Rattle.bound_terms.specs.bound_accesses.specs.bound_names.specs.bound_members.specs.bound_calls.specs.declared.term.Tree.{Tree}
use Rattle.bound_terms.specs.bound_accesses.specs.bound_names.specs.bound_members.specs.bound_calls.specs.Standing.{Grown, TermStands, ValueEnds}
use Rattle.bound_terms.specs.bound_accesses.specs.bound_names.specs.bound_members.specs.bound_calls.specs.Steps.{Leaves}
use Rattle.statement_nodes.specs.Resizing.{ArrayTold}
use Rattle.bound_terms.specs.bound_accesses.specs.bound_names.specs.View.{within_view}

-- what a With block keeps of a term that stands alone, whatever was pushed
abbrev pub Keeps : ℕ → Term → Within → Type 0
Keeps header x w = (env : Env) (d : Drafted) (z : plain.Term) (below : List Piece) → TermStands env d.tables x z d.pieces below → keeps header z ≡ Some (within_view w)

-- a variable of an object that the run finds, but for its last node
abbrev pub late_ending : HostMember → Ending
late_ending m = record { kind = node.LateField m.name; of = Plain Variant }

-- the place that a term is where ReDim or Erase names it, but for its last node
abbrev pub array_ending : Term → Option Ending
array_ending (term.Place kind of bounds lends makes) = Some (record { kind = kind; of = of })
array_ending (term.HostMember m) = if m.is_late then Some (late_ending m) else None
array_ending x = None

-- whether a term is neither a place nor a value, where it is bound
abbrev pub is_no_place : Term → Bool
is_no_place (term.Place kind of bounds lends makes) = false
is_no_place (term.Value e) = false
is_no_place (term.HostMember m) = not m.is_late
is_no_place (term.SheetMember m) = not m.is_late
is_no_place term.Nothing = false
is_no_place x = true

-- an expression that is neither is told at this place
pub record IsNoPlace (env : Env) (tree : Expr) (place : Place) : Type 0 where
  pub place_is : place ≡ place_told tree
  pub is : resized_place (place_told tree) (term_of env tree) ≡ value_place (broken_rule 27 (place_told tree) no_exprs)
  pub resizes : (written : Option Declared) → may_resize (term_of env tree) written ≡ false

-- a place was pushed that stands for what is none
pub record PushesNone (place : Place) (d e : Drafted) : Type 0 where
  pub grown : Grown d e
  pub on_top : e.pieces ≡ a_place (value_place (broken_rule 27 place no_exprs)) ∷ d.pieces

-- a value that no variable has was pushed as a place
pub record PushesValuePlace (ending : Ending) (place : Place) (d e : Drafted) : Type 0 where
  pub grown : Grown d e
  pub stands : (made : bound.Node) (below : List Piece) → ValueEnds d.tables ending.kind made d.pieces below
      → e.pieces ≡ a_place (value_place (expression_of made place (declared_view ending.of))) ∷ below

-- what a term resizes was pushed, and whether that gets others
abbrev pub Resizes : Tree → (of : Option DeclaredType) → (e f : Drafted) → Type 0
Resizes x of e f = (env : Env) (tree : Expr) (d : Drafted) → Leaves env tree d e x → ArrayTold env tree of x.place d f
