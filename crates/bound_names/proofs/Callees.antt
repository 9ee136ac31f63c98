-- What is called.
use Rattle.std.proofs.Common.{◌≡◌, List, Option, Some, None, refl, sym, ap, subst, ◌∙◌}
use Rattle.std.specs.Prelude.{option_map}
use Rattle.vba_words.specs.declared.identifier.Identifier.{Identifier}
use Rattle.vba_expression.specs.Tree.{Expr}
use Rattle.bound_project.specs.Pieces.{Piece}
use Rattle.bound_project.specs.Drafts.{Drafted}
use Rattle.bound_members.specs.bound_calls.specs.bound_declarations.specs.constant_values.specs.declared_names.specs.binder.specs.Scopes.{called, declares}
use Rattle.bound_members.specs.bound_calls.specs.bound_forms.specs.Terms.{Env}
use Rattle.bound_members.specs.bound_calls.specs.bound_forms.specs.Terms as plain
use Rattle.bound_members.specs.bound_calls.specs.bound_forms.specs.ExpressionsBound.{callee, meant_term, term_of}
use Rattle.bound_members.specs.bound_calls.specs.declared.term.Term.{Term}
use Rattle.bound_members.specs.bound_calls.specs.declared.term.Tree.{Tree}
use Rattle.bound_members.specs.bound_calls.specs.Standing.{TermStands, TermNamed, LeafStands}
use Rattle.bound_members.specs.bound_calls.specs.Steps.{MakesLeaf}
use Rattle.bound_names.specs.Callee.{CalleeIs}
use Rattle.bound_members.specs.bound_calls.proofs.Growing.{grown_same}
use Rattle.bound_members.specs.bound_calls.proofs.CallSteps.{name_found, no_name}

pub callee_named : (env : Env) (x : Tree) (named : Identifier) (d e : Drafted) (y : Term) → option_map (λ n. n.now) x.name ≡ Some named → MakesLeaf env d e y (meant_term env named (declares called env.scope named))
    → CalleeIs env x d e y
callee_named env x named d e y is h = record {
  grown = h.grown;
  pieces = h.pieces;
  named = h.named;
  stands = λ tree ps below k.
      let A : Option Identifier → Type 0 = λ o. LeafStands o ps below in
      let B : Expr → Type 0 = λ z. TermStands env e.tables y (callee env z (term_of env z)) ps below in
      let C : List Piece → Type 0 = λ qs. TermStands env e.tables y (meant_term env named (declares called env.scope named)) ps qs in
      subst B (sym (name_found tree named (sym is ∙ k.name_is))) (subst C (subst A is k.leaf) (h.stands ps));
}

pub callee_same : (env : Env) (x : Tree) (d : Drafted) → TermNamed d.tables x.term → x.name ≡ None → CalleeIs env x d d x.term
callee_same env x d named none = record {
  grown = grown_same d;
  pieces = refl;
  named = named;
  stands = λ tree ps below k.
      let B : plain.Term → Type 0 = λ y. TermStands env d.tables x.term y ps below in
      subst B (sym (no_name env tree (term_of env tree) (sym (ap (λ o. option_map (λ n. n.now) o) none) ∙ k.name_is))) k.term_is;
}
