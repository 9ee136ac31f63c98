use Rattle.std.proofs.Common.{subst}
use Rattle.bound_project.specs.DraftView.{draft_view}
use Rattle.bound_terms.specs.bound_accesses.specs.bound_names.specs.bound_members.specs.bound_calls.specs.bound_forms.specs.ExpressionsBound.{givens}
use Rattle.bound_terms.specs.bound_accesses.specs.bound_names.specs.bound_members.specs.bound_calls.specs.bound_forms.specs.StatementsBound.{called_with}
use Rattle.vba_expression.specs.Tree.{Args}
use Rattle.vba_expression.specs.View.{view}
use Rattle.std.proofs.Common.{Some}
use Rattle.statement_terms.specs.statement_nodes.specs.Pushed.{ActionStands}
use Rattle.bound_terms.specs.bound_accesses.specs.bound_names.specs.View.{env_view}
use Rattle.statement_terms.proofs.Called.{call_bound}
use Rattle.bound_actions.proofs.actions.bind_call.Goals as goal

pub returns : goal.returns
returns c =
    let env = env_view c.args.env in
    let target = view c.args.target.now in
    let d = draft_view c.args.draft.now in
    let e = draft_view c.call_tree.new.draft in
    let A : Args → Type 0 = λ args. ActionStands (Some c.in_ok-kind.kind) (called_with env target (givens env args)) d e in
    subst A c.nodes.ensures
    (call_bound env target c.nodes.result.now c.in_ok-tree.tree d (draft_view c.tree_of.new.draft) e c.in_ok-kind.kind c.requires.empty c.in_ok-tree.ensures c.in_ok-kind.ensures)
