use Rattle.bound_project.specs.DraftView.{draft_view}
use Rattle.statement_terms.proofs.WrittenMembers.{looks_late}
use Rattle.statement_terms.proofs.late_targets.look_late.Goals as goal

pub push_node-requires : goal.push_node-requires
push_node-requires c = c.in_ok-found.ensures.named

pub returns : goal.returns
returns c =
    looks_late c.args.member c.args.aim c.args.place c.in_ok-found.found (draft_view c.args.draft.now) (draft_view c.late_without_arguments.new.draft) (draft_view c.push_node.new.draft) c.in_ok-found.ensures c.in_ok-push_node.ensures
