use Rattle.bound_project.specs.DraftView.{draft_view}
use Rattle.statement_terms.proofs.WrittenMembers.{writes_named}
use Rattle.statement_terms.proofs.member_targets.write_named.Goals as goal

pub push_node-requires : goal.push_node-requires
push_node-requires c = c.in_ok-kind.ensures.named c.requires.named

pub returns : goal.returns
returns c =
    writes_named c.args.may_be c.args.call c.in_ok-kind.kind (draft_view c.args.draft.now) (draft_view c.push_node.new.draft) c.if-not-is_no_instance.ensures c.requires.written c.if-not-is_read_named.ensures c.in_ok-kind.ensures
    c.in_ok-push_node.ensures
