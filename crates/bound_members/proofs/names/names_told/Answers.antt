use Rattle.bound_project.specs.DraftView.{draft_view}
use Rattle.bound_members.proofs.Told.{some_told}
use Rattle.bound_members.proofs.names.names_told.Goals as goal

pub returns : goal.returns
returns c =
    some_told (draft_view c.args.draft.now) (draft_view c.add_names.new.draft) (draft_view c.order_number.new.draft) c.in_ok-order.order.items c.before_names-before.result c.in_ok-order-2.order c.in_ok-order.ensures c.in_ok-order-2.ensures
