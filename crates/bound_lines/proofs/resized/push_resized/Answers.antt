use Rattle.std.proofs.Common.{sym}
use Rattle.bound_project.specs.DraftView.{draft_view}
use Rattle.bound_lines.proofs.Placing.{array_named, place_resized}
use Rattle.bound_lines.proofs.resized.push_resized.Goals as goal

pub push_node-requires : goal.push_node-requires
push_node-requires c = array_named (draft_view c.args.draft.now).tables c.args.tree.term c.in-Some.at (sym c.in-Some.ensures) c.requires

pub returns-in_ok-push_node-in-Some : goal.returns-in_ok-push_node-in-Some
returns-in_ok-push_node-in-Some c =
    place_resized c.args.tree c.in-Some.at (draft_view c.args.draft.now) (draft_view c.push_node.new.draft) (sym c.in-Some.ensures) c.in_ok-push_node-in-Some.ensures
