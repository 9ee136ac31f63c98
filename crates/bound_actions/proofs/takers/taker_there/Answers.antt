use Rattle.std.proofs.Common.{subst, Bool}
use Rattle.std.specs.Prelude.{IfOk, MatchBool}
use Rattle.vba_expression.specs.Tree.{Expr}
use Rattle.vba_expression.specs.Nodes.{tree_in}
use Rattle.bound_terms.specs.bound_accesses.specs.bound_names.specs.bound_members.specs.bound_calls.specs.bound_forms.specs.Targets.{target_term}
use Rattle.bound_terms.specs.bound_accesses.specs.bound_names.specs.View.{env_view}
use Rattle.statement_terms.specs.Called.{IsBare}
use Rattle.statement_terms.specs.Takers.{TakenBy}
use Rattle.bound_actions.proofs.takers.taker_there.Goals as goal

pub taker_bare-requires-clause-bare : goal.taker_bare-requires-clause-bare
taker_bare-requires-clause-bare c =
    let A : Bool → Type 0 = λ b. MatchBool b (IsBare (tree_in c.nodes-nodes.result.now)) (Unit {0}) in
    let B : Expr → Type 0 = λ e. IsBare e in
    subst B c.nodes-nodes.ensures (subst A c.if-ends_bare.true c.ends_bare.ensures)

pub returns-in-Some : goal.returns-in-Some
returns-in-Some c =
    let B : Expr → Type 0 = λ e. IfOk c.taker_split.result (λ taker. TakenBy (env_view c.args.env) (target_term (env_view c.args.env) e) taker) in subst B c.nodes-nodes.ensures c.taker_split.ensures
