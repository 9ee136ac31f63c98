use Rattle.std.proofs.Common.{sym, ◌∙◌}
use Rattle.bound_project.specs.DraftView.{draft_view}
use Rattle.statement_terms.proofs.WrittenMembers.{writes_plain}
use Rattle.statement_terms.proofs.member_targets.write_plain.Goals as goal

pub returns : goal.returns
returns c = λ may.
    writes_plain may c.args.call c.args.given (draft_view c.args.draft.now) c.requires.named c.requires.early c.if-call-given.false (sym c.is_called_late.ensures ∙ c.if-is_called_late.false) c.requires.written
