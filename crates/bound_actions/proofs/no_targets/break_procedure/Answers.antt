use Rattle.std.proofs.Common.{ℕ, ◌+◌, ap, ◌∙◌}
use Rattle.bound_project.specs.DraftView.{draft_view}
use Rattle.bound_actions.proofs.Refusing.{breaks_procedure}
use Rattle.bound_actions.proofs.no_targets.break_procedure.Goals as goal

pub returns : goal.returns
returns c =
    breaks_procedure c.args.receiver c.args.rule c.args.place c.in_ok-values.values (draft_view c.args.draft.now) (draft_view c.push_object.new.draft) (draft_view c.push_broken.new.draft) c.in_ok-push_object.ensures
    (c.in_ok-values.ensures ∙ ap (λ (n : ℕ). n + 1) c.values_of.ensures) c.in_ok-push_broken.ensures
