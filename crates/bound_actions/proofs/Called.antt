-- Calls that stand as statements.
use Rattle.std.proofs.Common.{List, [], sym, subst}
use Rattle.vba_base.specs.declared.place.Place.{Place}
use Rattle.vba_expression.specs.declared.node.ExpressionNode.{ExpressionNode}
use Rattle.bound_project.specs.declared.statement.ActionKind.{ActionKind}
use Rattle.bound_project.specs.Pieces.{Piece}
use Rattle.bound_project.specs.Drafts.{Drafted}
use Rattle.bound_terms.specs.bound_accesses.specs.bound_names.specs.bound_members.specs.bound_calls.specs.bound_forms.specs.Terms.{Env, Given}
use Rattle.bound_terms.specs.bound_accesses.specs.bound_names.specs.bound_members.specs.bound_calls.specs.bound_forms.specs.ExpressionsBound.{callee, givens, term_of}
use Rattle.bound_terms.specs.bound_accesses.specs.bound_names.specs.bound_members.specs.bound_calls.specs.bound_forms.specs.StatementsBound.{called_term}
use Rattle.bound_terms.specs.bound_accesses.specs.bound_names.specs.bound_members.specs.bound_calls.specs.declared.term.Term.{Term}
use Rattle.bound_terms.specs.bound_accesses.specs.bound_names.specs.bound_members.specs.bound_calls.specs.declared.term.Tree.{Tree}
use Rattle.bound_terms.specs.bound_accesses.specs.bound_names.specs.bound_members.specs.bound_calls.specs.Standing.{TermStands}
use Rattle.statement_terms.specs.Called.{args_on, ActionIs, Acts, ActsOn, CallsTree, CallsTreeOn}
use Rattle.bound_terms.specs.bound_accesses.specs.bound_names.specs.Callee.{CalleeIs}
use Rattle.bound_terms.specs.bound_accesses.specs.bound_names.specs.bound_members.specs.bound_calls.proofs.Growing.{grown_twice}

-- ---- expressions that are called

calls_given : (env : Env) (x : Tree) (gs : List Given) (d f e : Drafted) (y : Term) (kind : ActionKind) → CalleeIs env x d f y → Acts env y x.place gs f e kind → CallsTree env x gs d e kind
calls_given env x gs d f e y kind c a = record {
  grown = grown_twice d f e c.grown a.grown;
  named = a.named;
  stands = λ tree k.
      let z = callee env tree (term_of env tree) in
      let A : List Piece → Type 0 = λ ps. TermStands env f.tables y z ps [] in
      let B : Place → Type 0 = λ place. ActionIs kind (called_term env place z gs) e.tables e.pieces in
      subst B k.place_is (a.stands z (subst A (sym c.pieces) (c.stands tree d.pieces [] k)));
}

pub calls_bare : (env : Env) (x : Tree) (d f e : Drafted) (y : Term) (kind : ActionKind) → CalleeIs env x d f y → Acts env y x.place [] f e kind → CallsTree env x [] d e kind
calls_bare env x d f e y kind c a = calls_given env x [] d f e y kind c a

pub calls_tree : (env : Env) (x : Tree) (ns : List ExpressionNode) (d f e : Drafted) (y : Term) (kind : ActionKind) → CalleeIs env x d f y → ActsOn env y x.place ns f e kind → CallsTreeOn env x ns d e kind
calls_tree env x ns d f e y kind c a = record { framed = a.framed; calls = λ items. calls_given env x (givens env (args_on items ns)) d f e y kind c (a.acts items) }
