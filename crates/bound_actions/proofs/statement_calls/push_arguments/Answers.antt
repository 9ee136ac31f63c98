use Rattle.bound_project.specs.DraftView.{draft_view}
use Rattle.bound_terms.specs.bound_accesses.specs.bound_names.specs.View.{env_view}
use Rattle.std.specs.Prelude.{map}
use Rattle.std.proofs.lemmas.Result.{IfOk-weaker}
use Rattle.bound_project.specs.View.{parameter_view}
use Rattle.statement_terms.specs.Called.{PassesAll, RestPushed}
use Rattle.statement_terms.proofs.Called.{all_passed}
use Rattle.bound_actions.proofs.statement_calls.push_arguments.Goals as goal

pub returns : goal.returns
returns c =
    let env = env_view c.args.env in
    let d = draft_view c.args.draft.now in
    let m = draft_view c.read_arguments.new.draft in
    let e = draft_view c.push_rest.new.draft in
    let x = c.in_ok-passed.passed in
    IfOk-weaker c.push_rest.result (λ n. RestPushed x m e n.0 n.1) (λ n. PassesAll env (map parameter_view c.args.parameters.now) c.args.nodes.now d e n.0 n.1)
    (λ n h. all_passed env c.args.parameters.now x c.args.nodes.now d m e n.0 n.1 c.in_ok-passed.ensures h) c.push_rest.ensures
