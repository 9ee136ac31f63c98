use Rattle.bound_project.specs.DraftView.{draft_view}
use Rattle.bound_operands.proofs.Library.{marks_taken}
use Rattle.bound_operands.proofs.functions.push_marked.Goals as goal

pub returns : goal.returns
returns c =
    marks_taken c.args.taking c.args.tree c.in_ok-of.of c.in_ok-mark_given.field-0 (draft_view c.args.draft.now) (draft_view c.push_taken.new.draft) (draft_view c.mark_given.new.draft) c.in_ok-of.ensures c.in_ok-mark_given.ensures
