use Rattle.bound_project.specs.DraftView.{draft_view}
use Rattle.statement_terms.proofs.Takings.{some_taken}
use Rattle.statement_terms.proofs.takers.mark_taken.Goals as goal

pub returns : goal.returns
returns c =
    some_taken c.args.taker c.in-Some.taker c.args.place c.args.given c.in_ok-mark_given.field-0 (draft_view c.args.draft.now) (draft_view c.mark_given.new.draft) c.in-Some.is c.in_ok-mark_given.ensures
