use Rattle.std.proofs.Common.{sym, ◌∙◌}
use Rattle.bound_project.specs.DraftView.{draft_view}
use Rattle.bound_project.specs.View.{declared_view}
use Rattle.bound_calls.proofs.Giving.{marked, unmarked}
use Rattle.bound_calls.proofs.given.mark_given.Goals as goal

pub returns-in_default : goal.returns-in_default
returns-in_default c = unmarked (declared_view c.args.of) c.args.is_bounded c.args.place c.args.given (draft_view c.args.draft.now) (sym c.given_rule.ensures ∙ c.in_default.is)

pub returns : goal.returns
returns c =
    marked (declared_view c.args.of) c.args.is_bounded c.args.place c.args.given c.in-Some.rule (draft_view c.args.draft.now) (draft_view c.push_node.new.draft) (sym c.in-Some.ensures) c.in_ok-push_node.ensures
