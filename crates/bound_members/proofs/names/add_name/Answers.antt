use Rattle.bound_project.specs.DraftView.{draft_view}
use Rattle.bound_members.proofs.Told.{name_added}
use Rattle.bound_members.proofs.names.add_name.Goals as goal

pub returns : goal.returns
returns c =
    name_added _ (draft_view c.args.draft.now) (draft_view c.constant_number.new.draft) c.in_ok-constant.constant c.args.order.now.items c.push.new.self.items c.in_ok-constant.ensures c.in_ok-push.ensures.items
