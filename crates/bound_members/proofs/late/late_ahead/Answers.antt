use Rattle.bound_project.specs.DraftView.{draft_view}
use Rattle.bound_members.proofs.LateSteps.{looks_up_late}
use Rattle.bound_members.proofs.late.late_ahead.Goals as goal

pub returns : goal.returns
returns c =
    looks_up_late c.args.name c.in_ok-arguments.arguments c.in_ok-given.given c.in_ok-names.names c.in_ok-written.written.items (draft_view c.args.draft.now) (draft_view c.names_told.new.draft) (draft_view c.order_number.new.draft) c.requires
    c.in_ok-names.ensures c.in_ok-given.ensures
