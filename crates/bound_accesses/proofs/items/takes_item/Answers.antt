use Rattle.std.proofs.Common.{sym, ◌∙◌}
use Rattle.bound_project.specs.DraftView.{draft_view}
use Rattle.bound_accesses.proofs.Lacking.{keeps_item, lacking_item}
use Rattle.bound_accesses.proofs.items.takes_item.Goals as goal

pub returns-then-lacks_item : goal.returns-then-lacks_item
returns-then-lacks_item c = lacking_item c.args.has_class (draft_view c.args.draft.now).tables c.args.term (sym c.lacks_item.ensures ∙ c.if-lacks_item.true)

pub returns : goal.returns
returns c = keeps_item c.args.has_class (draft_view c.args.draft.now).tables c.args.term c.may_take_item.result (sym c.lacks_item.ensures ∙ c.if-lacks_item.false) c.may_take_item.ensures
