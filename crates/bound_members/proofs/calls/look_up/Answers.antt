use Rattle.bound_project.specs.DraftView.{draft_view}
use Rattle.bound_members.proofs.MemberSteps.{looks_early, looks_late}
use Rattle.bound_members.proofs.calls.look_up.Goals as goal

pub returns-then-is_called_late : goal.returns-then-is_called_late
returns-then-is_called_late c = looks_late c.args.member (draft_view c.args.draft.now) (draft_view c.late_ahead.new.draft) c.args.aim c.in_ok-found.found c.in_ok-found.ensures

pub returns : goal.returns
returns c = looks_early c.args.member (draft_view c.args.draft.now) (draft_view c.names_ahead.new.draft) c.in_ok-names.names c.given_ahead-given.result c.in_ok-names.ensures
