use Rattle.bound_project.specs.DraftView.{draft_view}
use Rattle.bound_accesses.proofs.ItemTerms.{late_value}
use Rattle.bound_accesses.proofs.items.late_of_value.Goals as goal

pub returns : goal.returns
returns c =
    late_value c.args.place c.args.ending c.args.name (draft_view c.args.draft.now) (draft_view c.push_node.new.draft) (draft_view c.found_late.new.draft) c.in_ok-member.member c.in_ok-push_node.ensures c.in_ok-member.ensures
