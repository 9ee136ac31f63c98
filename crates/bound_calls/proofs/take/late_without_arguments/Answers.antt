use Rattle.bound_project.specs.DraftView.{draft_view}
use Rattle.bound_calls.proofs.Taking.{looks_up_bare}
use Rattle.bound_calls.proofs.take.late_without_arguments.Goals as goal

pub returns : goal.returns
returns c = looks_up_bare c.args.name (draft_view c.args.draft.now) (draft_view c.order_number.new.draft) c.in_ok-order.order c.new.result.items c.new.ensures.items c.requires c.in_ok-order.ensures
