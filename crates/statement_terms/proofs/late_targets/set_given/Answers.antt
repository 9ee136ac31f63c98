use Rattle.std.proofs.lemmas.Bool.{not-false}
use Rattle.bound_project.specs.DraftView.{draft_view}
use Rattle.statement_terms.proofs.WrittenMembers.{sets_call}
use Rattle.statement_terms.proofs.late_targets.set_given.Goals as goal

pub returns : goal.returns
returns c = sets_call c.args.call c.args.found (draft_view c.args.draft.now) c.requires.named (not-false c.args.call.member.is_late c.if-not-call.false) c.requires.late c.if-not-late_came.ensures
