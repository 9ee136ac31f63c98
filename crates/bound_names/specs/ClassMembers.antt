-- Serves the code: members of objects of classes.
use Rattle.std.specs.Prelude.{◌≡◌, ℕ, List, ◌∷◌}
use Rattle.vba_base.specs.declared.place.Place.{Place}
use Rattle.vba_words.specs.declared.identifier.Identifier.{Identifier}
use Rattle.bound_project.specs.declared.declared_type.DeclaredType.TheVariants.{Plain}
use Rattle.bound_project.specs.declared.declared_type.ElementType.TheVariants as element
use Rattle.bound_project.specs.declared.node.NodeKind.TheVariants as kinds
use Rattle.bound_project.specs.Expressions as expressions
use Rattle.bound_project.specs.Pieces.{Piece, an_expr}
use Rattle.bound_project.specs.Drafts.{Drafted}
use Rattle.bound_project.specs.Project as project
use Rattle.bound_members.specs.bound_calls.specs.bound_declarations.specs.constant_values.specs.declared_names.specs.binder.specs.Declarations.{Entry}
use Rattle.bound_members.specs.bound_calls.specs.bound_declarations.specs.constant_values.specs.declared_names.specs.binder.specs.Scopes.{Space}
use Rattle.bound_members.specs.bound_calls.specs.bound_forms.specs.Members.{class_member, object_term}
use Rattle.bound_members.specs.bound_calls.specs.bound_forms.specs.Terms.{Env}
use Rattle.bound_members.specs.bound_calls.specs.declared.term.Term.{Term}
use Rattle.bound_members.specs.bound_calls.specs.declared.term.Term.TheVariants as term
use Rattle.bound_members.specs.bound_calls.specs.Standing.{TermStands, TermNamed, Grown}

-- what is told of a member that there isn't, behind the value that was pushed
abbrev pub unknown_term : (dot : Place) → Term
unknown_term dot = term.Value (record { kind = kinds.Marked (record { rule = 34; place = dot }) 1; of = Plain element.Variant })

-- what stands behind a dot behind an object of a class, which was pushed
pub record MakesMemberOf (env : Env) (dot : Place) (class : ℕ) (f : Identifier) (d e : Drafted) (x : Term) : Type 0 where
  pub grown : Grown d e
  pub named : TermNamed e.tables x
  pub stands : (base : expressions.Expr) (below : List Piece) → d.pieces ≡ an_expr base ∷ below → TermStands env e.tables x (class_member env dot base class f) e.pieces below

-- what is an entry of the class of an object which was pushed
pub record MakesEntryOf (env : Env) (space : Space) (number : ℕ) (entry : Entry) (d e : Drafted) (x : Term) : Type 0 where
  pub grown : Grown d e
  pub named : TermNamed e.tables x
  pub stands : (base : expressions.Expr) (below : List Piece) → d.pieces ≡ an_expr base ∷ below → TermStands env e.tables x (object_term env base space number entry) e.pieces below
