use Rattle.bound_project.specs.DraftView.{draft_view}
use Rattle.bound_actions.proofs.Behind.{other_stays}
use Rattle.bound_actions.proofs.property_targets.target_before.Goals as goal

pub routine_before-requires-clause-routine : goal.routine_before-requires-clause-routine
routine_before-requires-clause-routine c = c.in-Routine.is

pub returns-in_default : goal.returns-in_default
returns-in_default c = other_stays c.args.before c.args.nodes.now (draft_view c.args.draft.now) c.requires.tree c.requires.term c.in_default.not-Routine
