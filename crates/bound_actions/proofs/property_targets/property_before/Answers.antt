use Rattle.bound_project.specs.DraftView.{draft_view}
use Rattle.bound_actions.proofs.Behind.{property_replaced}
use Rattle.bound_actions.proofs.property_targets.property_before.Goals as goal

pub returns : goal.returns
returns c =
    property_replaced c.args.before c.args.routine c.in_ok-ending.ending c.args.nodes.now (draft_view c.args.draft.now) (draft_view c.routine_ending.new.draft) c.requires.routine c.requires.indexes c.requires.some c.in_ok-ending.ensures
