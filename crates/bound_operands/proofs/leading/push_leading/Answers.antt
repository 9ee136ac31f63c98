use Rattle.std.proofs.Common.{sym, ◌∙◌}
use Rattle.bound_project.specs.DraftView.{draft_view}
use Rattle.bound_operands.proofs.LedItems.{leads_marked}
use Rattle.bound_operands.proofs.leading.push_leading.Goals as goal

pub returns : goal.returns
returns c = leads_marked c.args.tree (draft_view c.args.draft.now) (draft_view c.push_marked.new.draft) (sym c.gives_class.ensures ∙ c.if-gives_class.false) c.in_ok-push_marked.ensures
