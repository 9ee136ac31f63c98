use Rattle.bound_project.specs.DraftView.{draft_view}
use Rattle.bound_calls.proofs.Referring.{pushes_given}
use Rattle.bound_calls.proofs.references.push_given.Goals as goal

pub returns : goal.returns
returns c =
    pushes_given c.args.tree (draft_view c.args.draft.now) (draft_view c.given_ending.new.draft) (draft_view c.push_node.new.draft) c.in_ok-ending.ending c.in_ok-ending.ensures c.in_ok-push_node.ensures
