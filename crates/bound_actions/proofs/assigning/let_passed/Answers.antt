use Rattle.std.proofs.lemmas.Result.{IfOk-weaker}
use Rattle.std.specs.Prelude.{map}
use Rattle.bound_project.specs.DraftView.{draft_view}
use Rattle.bound_project.specs.View.{parameter_view}
use Rattle.bound_terms.specs.bound_accesses.specs.bound_names.specs.View.{env_view}
use Rattle.bound_actions.proofs.Assigned.{lets_taken}
use Rattle.bound_actions.proofs.assigning.let_passed.Goals as goal

pub returns : goal.returns
returns c =
    let d = draft_view c.args.draft.now in
    let r = draft_view c.push_receiver.new.draft in
    let e = draft_view c.let_taken.new.draft in
    IfOk-weaker c.let_taken.result _ _
    (λ k h. lets_taken (env_view c.args.env) c.args.place (map parameter_view c.args.front.now) c.args.property c.args.nodes.now d r e k c.in_ok-push_receiver.ensures h) c.let_taken.ensures
