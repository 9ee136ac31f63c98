use Rattle.std.proofs.Common.{Bool, Some, subst}
use Rattle.std.specs.Prelude.{MatchBool}
use Rattle.vba_expression.specs.Tree.{Expr}
use Rattle.vba_expression.specs.Nodes.{tree_in}
use Rattle.vba_expression.specs.View.{view}
use Rattle.bound_project.specs.DraftView.{draft_view}
use Rattle.bound_terms.specs.bound_accesses.specs.bound_names.specs.bound_members.specs.bound_calls.specs.bound_forms.specs.StatementsBound.{called_place}
use Rattle.bound_terms.specs.bound_accesses.specs.bound_names.specs.View.{env_view}
use Rattle.statement_terms.specs.statement_nodes.specs.Pushed.{ActionStands}
use Rattle.statement_terms.specs.Called.{IsBare}
use Rattle.statement_terms.proofs.Called.{bare_bound, place_bound}
use Rattle.bound_actions.proofs.actions.bind_call_place.Goals as goal

pub returns-then-ends_bare : goal.returns-then-ends_bare
returns-then-ends_bare c =
    let A : Bool → Type 0 = λ b. MatchBool b (IsBare (tree_in c.nodes-nodes.result.now)) (Unit {0}) in
    let B : Expr → Type 0 = λ e. IsBare e in
    bare_bound (env_view c.args.env) (view c.args.place.now) c.in_ok-tree.tree (draft_view c.args.draft.now) (draft_view c.tree_of.new.draft) (draft_view c.call_bare.new.draft) c.in_ok-call_bare.field-0
    (subst B c.nodes-nodes.ensures (subst A c.if-ends_bare.true c.ends_bare.ensures)) c.requires.empty c.in_ok-tree.ensures c.in_ok-call_bare.ensures

pub returns : goal.returns
returns c =
    let env = env_view c.args.env in
    let k = c.in_ok-kind.kind in
    let d = draft_view c.args.draft.now in
    let f = draft_view c.nodes_tree.new.draft in
    let e = draft_view c.call_tree.new.draft in
    let A : Expr → Type 0 = λ t. ActionStands (Some k) (called_place env t) d e in
    subst A c.nodes-nodes.ensures (place_bound env c.in-Some.split c.nodes-nodes.result.now c.in_ok-tree-2.tree d f e k c.in-Some.ensures c.requires.empty c.in_ok-tree-2.ensures c.in_ok-kind.ensures)
