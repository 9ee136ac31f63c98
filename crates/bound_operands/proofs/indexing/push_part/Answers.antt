use Rattle.std.proofs.Common.{sym, ◌∙◌}
use Rattle.bound_project.specs.DraftView.{draft_view}
use Rattle.bound_operands.proofs.Elements.{pushes_part}
use Rattle.bound_operands.proofs.indexing.push_part.Goals as goal

pub returns-then-is_part : goal.returns-then-is_part
returns-then-is_part c = pushes_part c.args.kind c.args.of c.args.place (draft_view c.args.draft.now) (draft_view c.push_node.new.draft) (sym c.is_part.ensures ∙ c.if-is_part.true) c.in_ok-push_node.ensures
