use Rattle.std.proofs.lemmas.Result.{IfOk-weaker}
use Rattle.bound_project.specs.DraftView.{draft_view}
use Rattle.bound_operands.proofs.Elements.{opens_value}
use Rattle.bound_operands.proofs.indexing.open_value.Goals as goal

pub returns : goal.returns
returns c = IfOk-weaker c.push_whole.result _ _ (λ i p b env known. opens_value b env c.args.has_class c.args.tree c.args.ending (draft_view c.args.draft.now) (draft_view c.push_whole.new.draft) i known p) c.push_whole.ensures
