use Rattle.std.proofs.Common.{sym, ◌∙◌}
use Rattle.bound_project.specs.DraftView.{draft_view}
use Rattle.statement_terms.proofs.member_targets.is_written_call.Goals as goal

pub returns : goal.returns
returns c = record {
  some = c.if-call-eq0.false;
  takes = sym (c.takes_arguments.ensures (draft_view c.args.draft.now).tables) ∙ c.if-not-takes_arguments.false;
  default = sym c.has_written_default.ensures ∙ c.if-not-has_written_default.false;
  written = sym c.gives_written.ensures ∙ c.if-not-gives_written.false;
}
