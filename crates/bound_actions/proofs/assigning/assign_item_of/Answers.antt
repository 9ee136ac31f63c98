use Rattle.bound_project.specs.DraftView.{draft_view}
use Rattle.bound_actions.proofs.assigning.assign_item_of.Goals as goal

pub returns : goal.returns
returns c = record {
  more = c.in_ok-more.more;
  after = draft_view c.continue_tree.new.draft;
  continues = c.in_ok-more.ensures;
  assigns = c.in_ok-kind.ensures;
  item = c.in-Some.ensures;
}
