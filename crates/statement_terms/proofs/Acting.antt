-- The variable of a loop.
use Rattle.std.proofs.Common.{◌≡◌, ℕ, Bool, ◌∷◌, Some, sym, ap, subst, ◌∙◌}
use Rattle.bound_project.specs.declared.declared_type.DeclaredType.{DeclaredType}
use Rattle.bound_project.specs.declared.node.NodeKind.TheVariants as node
use Rattle.bound_project.specs.declared.variable.Variable.{Variable}
use Rattle.vba_expression.specs.Nodes.{no_token}
use Rattle.bound_project.specs.View.{declared_view, variable_view}
use Rattle.bound_project.specs.Expressions.{Lvalue}
use Rattle.bound_project.specs.Expressions as bound
use Rattle.bound_project.specs.Pieces as piece
use Rattle.bound_members.specs.bound_calls.specs.bound_forms.specs.Terms.{a_place}
use Rattle.bound_members.specs.bound_calls.specs.bound_forms.specs.Terms as plain
use Rattle.bound_members.specs.bound_calls.specs.bound_forms.specs.StatementsBound.{plain_variable}
use Rattle.bound_members.specs.bound_calls.specs.declared.term.Term.{Term}
use Rattle.bound_members.specs.bound_calls.specs.declared.term.Term.TheVariants as term
use Rattle.bound_members.specs.bound_calls.specs.Standing.{TermStands}
use Rattle.statement_terms.specs.Terms.{IsVariable}
use Rattle.bound_members.specs.bound_calls.proofs.Taking.{node_of}

pub variable_is : (v : Variable) (x : Term) (of : DeclaredType) (bounds : ℕ) (lends makes : Bool) → x ≡ term.Place (node.Variable v) of bounds lends makes → IsVariable x (Some v)
variable_is v x of bounds lends makes is env t y ps below h =
    let T : Term → Type 0 = λ (z : Term). TermStands env t z y ps below in
    let p = subst T is h in
    let same : piece.a_place (bound.variable (variable_view v)) ∷ ps ≡ piece.a_place p.at ∷ below = p.ends (node_of (node.Variable v) no_token.place of) in
    let at : bound.variable (variable_view v) ≡ p.at = cc in
    ap (λ (z : plain.Term). plain_variable z) p.is ∙ sym (ap (λ (z : Lvalue). plain_variable (a_place z (declared_view of) bounds lends makes)) at)
