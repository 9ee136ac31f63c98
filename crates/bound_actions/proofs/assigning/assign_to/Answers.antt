use Rattle.std.proofs.Common.{subst, Bool}
use Rattle.std.specs.Prelude.{IfOk, MatchBool}
use Rattle.vba_expression.specs.Tree.{Expr}
use Rattle.vba_expression.specs.Nodes.{tree_in}
use Rattle.bound_project.specs.DraftView.{draft_view}
use Rattle.statement_terms.specs.Called.{AssignsTo, IsBare}
use Rattle.bound_terms.specs.bound_accesses.specs.bound_names.specs.View.{env_view}
use Rattle.bound_actions.proofs.assigning.assign_to.Goals as goal

pub assign_bare-requires-clause-bare : goal.assign_bare-requires-clause-bare
assign_bare-requires-clause-bare c =
    let A : Bool → Type 0 = λ b. MatchBool b (IsBare (tree_in c.nodes-nodes.result.now)) (Unit {0}) in
    let B : Expr → Type 0 = λ e. IsBare e in
    subst B c.nodes-nodes.ensures (subst A c.if-ends_bare.true c.ends_bare.ensures)

pub returns-in-Some : goal.returns-in-Some
returns-in-Some c =
    let B : Expr → Type 0 = λ e. IfOk c.assign_split.result (λ done. AssignsTo (env_view c.args.env) c.args.may_be e (draft_view c.args.draft.now) (draft_view c.assign_split.new.draft) done.kind done.is_given) in subst B c.nodes-nodes.ensures c.assign_split.ensures
