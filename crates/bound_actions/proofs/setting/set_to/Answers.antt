use Rattle.std.proofs.Common.{subst, Bool}
use Rattle.std.specs.Prelude.{IfOk, MatchBool}
use Rattle.vba_expression.specs.Tree.{Expr}
use Rattle.vba_expression.specs.Nodes.{tree_in}
use Rattle.bound_project.specs.DraftView.{draft_view}
use Rattle.statement_terms.specs.Called.{IsBare}
use Rattle.statement_terms.specs.Setting.{SetsTo}
use Rattle.bound_terms.specs.bound_accesses.specs.bound_names.specs.View.{env_view}
use Rattle.bound_actions.proofs.setting.set_to.Goals as goal

pub set_bare-requires-clause-bare : goal.set_bare-requires-clause-bare
set_bare-requires-clause-bare c =
    let A : Bool → Type 0 = λ b. MatchBool b (IsBare (tree_in c.nodes-nodes.result.now)) (Unit {0}) in
    let B : Expr → Type 0 = λ e. IsBare e in
    subst B c.nodes-nodes.ensures (subst A c.if-ends_bare.true c.ends_bare.ensures)

pub returns-in-Some : goal.returns-in-Some
returns-in-Some c =
    let B : Expr → Type 0 = λ e. IfOk c.set_split.result (λ k. SetsTo c.args.set_word (env_view c.args.env) e (draft_view c.args.draft.now) (draft_view c.set_split.new.draft) k) in subst B c.nodes-nodes.ensures c.set_split.ensures
