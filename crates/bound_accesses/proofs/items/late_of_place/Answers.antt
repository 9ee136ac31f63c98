use Rattle.bound_project.specs.DraftView.{draft_view}
use Rattle.bound_accesses.proofs.ItemTerms.{late_place}
use Rattle.bound_accesses.proofs.items.late_of_place.Goals as goal

pub returns : goal.returns
returns c =
    late_place c.args.place c.args.at c.args.makes c.read_kind.result c.args.name (draft_view c.args.draft.now) (draft_view c.push_node.new.draft) (draft_view c.push_node-2.new.draft) (draft_view c.found_late.new.draft) c.in_ok-member.member
    c.read_kind.ensures c.in_ok-push_node.ensures c.in_ok-push_node-2.ensures c.in_ok-member.ensures
