use Rattle.bound_project.specs.DraftView.{draft_view}
use Rattle.statement_terms.proofs.WrittenMembers.{writes_given}
use Rattle.statement_terms.proofs.late_targets.write_given.Goals as goal

pub returns : goal.returns
returns c = λ may. writes_given may c.args.call c.args.found (draft_view c.args.draft.now) c.requires.named c.requires.late c.if-not-is_given_late.ensures c.if-not-late_came.ensures c.requires.written
