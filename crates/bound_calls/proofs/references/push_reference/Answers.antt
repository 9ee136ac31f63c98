use Rattle.bound_project.specs.DraftView.{draft_view}
use Rattle.bound_calls.proofs.Referring.{pushes_reference}
use Rattle.bound_calls.proofs.references.push_reference.Goals as goal

pub returns : goal.returns
returns c =
    pushes_reference c.args.tree (draft_view c.args.draft.now) (draft_view c.alone.new.draft) (draft_view c.reference_ending.new.draft) (draft_view c.push_node.new.draft) c.in_ok-made.made c.in_ok-ending.ending c.in_ok-made.ensures
    c.in_ok-ending.ensures c.in_ok-push_node.ensures
