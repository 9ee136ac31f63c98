use Rattle.bound_project.specs.DraftView.{draft_view}
use Rattle.statement_nodes.proofs.Ended.{integer_pushed}
use Rattle.statement_nodes.proofs.values.push_integer.Goals as goal

pub returns-in-Ok : goal.returns-in-Ok
returns-in-Ok c =
    integer_pushed c.args.place c.args.number _ (draft_view c.args.draft.now) (draft_view c.push_constant.new.self) _ c.integer.ensures c.in-Ok.ensures
