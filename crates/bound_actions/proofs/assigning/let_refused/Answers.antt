use Rattle.std.proofs.Common.{ℕ, ◌+◌, ap, ◌∙◌}
use Rattle.std.specs.Prelude.{map}
use Rattle.std.proofs.lemmas.Result.{IfOk-weaker}
use Rattle.bound_project.specs.DraftView.{draft_view}
use Rattle.bound_project.specs.View.{parameter_view}
use Rattle.bound_terms.specs.bound_accesses.specs.bound_names.specs.View.{env_view}
use Rattle.bound_actions.proofs.Refusing.{let_refused}
use Rattle.bound_actions.proofs.assigning.let_refused.Goals as goal

pub returns : goal.returns
returns c =
    let d = draft_view c.args.draft.now in
    let m = draft_view c.push_object.new.draft in
    let e = draft_view c.refuse_arguments.new.draft in
    IfOk-weaker c.refuse_arguments.result _ _
    (λ k r. let_refused (env_view c.args.env) c.args.place (map parameter_view c.args.front.now) c.args.property c.in_ok-before.before c.args.nodes.now d m e k c.in_ok-push_object.ensures
    (c.in_ok-before.ensures ∙ ap (λ (n : ℕ). n + 1) c.values_of.ensures) r) c.refuse_arguments.ensures
