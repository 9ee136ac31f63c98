use Rattle.bound_project.specs.DraftView.{draft_view}
use Rattle.bound_members.proofs.LateItems.{known_early}
use Rattle.bound_members.proofs.kinds.is_known_early.Goals as goal

pub returns-in-Some : goal.returns-in-Some
returns-in-Some c = known_early c.args.has_class (draft_view c.args.draft.now).tables c.args.ending c.in-Some.is_late c.in-Some.ensures
