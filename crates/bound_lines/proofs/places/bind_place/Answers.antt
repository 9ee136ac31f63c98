use Rattle.std.proofs.Common.{sym}
use Rattle.vba_expression.specs.View.{view}
use Rattle.bound_project.specs.DraftView.{draft_view}
use Rattle.bound_terms.specs.bound_accesses.specs.bound_names.specs.View.{env_view}
use Rattle.bound_lines.proofs.Placing.{array_named, place_bound}
use Rattle.bound_lines.proofs.places.bind_place.Goals as goal

pub push_node-requires : goal.push_node-requires
push_node-requires c = array_named (draft_view c.tree_of.new.draft).tables c.in_ok-tree.tree.term c.in-Some.at (sym c.in-Some.ensures) c.in_ok-tree.ensures.named

pub returns : goal.returns
returns c =
    place_bound (env_view c.args.env) (view c.args.expression.now) c.in_ok-tree.tree c.in-Some.at (draft_view c.args.draft.now) (draft_view c.tree_of.new.draft) (draft_view c.push_node.new.draft) c.in_ok-tree.ensures (sym c.in-Some.ensures)
    c.in_ok-push_node.ensures
