use Rattle.bound_project.specs.DraftView.{draft_view}
use Rattle.bound_members.proofs.Told.{none_added}
use Rattle.bound_members.proofs.names.add_shape.Goals as goal

pub returns-in-None : goal.returns-in-None
returns-in-None c = none_added (draft_view c.args.draft.now) c.args.order.now.items
