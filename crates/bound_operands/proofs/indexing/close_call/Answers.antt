use Rattle.bound_project.specs.DraftView.{draft_view}
use Rattle.bound_members.specs.bound_calls.proofs.CallSteps.{closes_call}
use Rattle.bound_operands.proofs.indexing.close_call.Goals as goal

pub returns : goal.returns
returns c = closes_call c.args.call c.in_ok-ending.ending c.args.declared (draft_view c.args.draft.now) (draft_view c.call_ending.new.draft) c.in_ok-ending.ensures
