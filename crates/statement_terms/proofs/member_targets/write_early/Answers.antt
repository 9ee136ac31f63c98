use Rattle.bound_project.specs.DraftView.{draft_view}
use Rattle.statement_terms.proofs.WrittenMembers.{member_assigned}
use Rattle.statement_terms.proofs.member_targets.write_early.Goals as goal

pub returns : goal.returns
returns c = λ has may asked.
    member_assigned has may c.args.member c.args.place (draft_view c.args.draft.now) (draft_view c.push_node.new.draft) c.requires.named c.requires.least c.requires.written asked c.in_ok-push_node.ensures
