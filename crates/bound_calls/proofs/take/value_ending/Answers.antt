use Rattle.bound_project.specs.DraftView.{draft_view}
use Rattle.bound_calls.proofs.Taking.{takes_alone}
use Rattle.bound_calls.proofs.take.value_ending.Goals as goal

pub returns : goal.returns
returns c =
    takes_alone c.args.term c.args.place (draft_view c.args.draft.now) (draft_view c.alone.new.draft) (draft_view c.read_value.new.draft) c.in_ok-made.made c.in_ok-ending.ending c.in_ok-made.ensures c.in_ok-ending.ensures
