use Rattle.bound_project.specs.DraftView.{draft_view}
use Rattle.statement_terms.proofs.WrittenMembers.{sets_member_late}
use Rattle.statement_terms.proofs.late_targets.set_late.Goals as goal

pub returns : goal.returns
returns c = sets_member_late c.args.member c.in_ok-found.found (draft_view c.args.draft.now) (draft_view c.look_late.new.draft) c.requires.late c.in_ok-found.ensures
