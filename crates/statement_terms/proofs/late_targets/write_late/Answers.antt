use Rattle.bound_project.specs.DraftView.{draft_view}
use Rattle.statement_terms.proofs.WrittenMembers.{member_late}
use Rattle.statement_terms.proofs.late_targets.write_late.Goals as goal

pub returns : goal.returns
returns c = λ has may asked.
    member_late has may c.args.member c.args.place c.in_ok-found.found (draft_view c.args.draft.now) (draft_view c.look_late.new.draft) c.requires.least c.requires.written asked c.in_ok-found.ensures
