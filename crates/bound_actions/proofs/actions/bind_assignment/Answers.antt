use Rattle.vba_expression.specs.View.{view as expression_view}
use Rattle.bound_project.specs.DraftView.{draft_view}
use Rattle.bound_terms.specs.bound_accesses.specs.bound_names.specs.View.{env_view}
use Rattle.statement_terms.proofs.Assigned.{action_assigned}
use Rattle.bound_actions.proofs.actions.bind_assignment.Goals as goal

pub returns : goal.returns
returns c =
    action_assigned (env_view c.args.env) (expression_view c.args.value.now) (expression_view c.args.place.now) c.in_ok-may_be.may_be (draft_view c.args.draft.now) (draft_view c.bind_assigned.new.draft) (draft_view c.assign_to.new.draft)
    c.in_ok-done.done.kind c.in_ok-done.done.is_given c.requires.empty c.in_ok-may_be.ensures c.in_ok-done.ensures
