use Rattle.bound_project.specs.DraftView.{draft_view}
use Rattle.bound_operands.proofs.Elements.{pushes_variable}
use Rattle.bound_operands.proofs.indexing.push_target.Goals as goal

pub returns-in-Variable : goal.returns-in-Variable
returns-in-Variable c = pushes_variable c.args.kind c.in-Variable.variable c.args.of c.args.place (draft_view c.args.draft.now) c.in-Variable.is
