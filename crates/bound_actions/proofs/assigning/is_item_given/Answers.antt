use Rattle.std.proofs.Common.{sym, ◌∙◌}
use Rattle.bound_project.specs.DraftView.{draft_view}
use Rattle.bound_actions.proofs.Assigned.{given_kept, given_lacking}
use Rattle.bound_actions.proofs.assigning.is_item_given.Goals as goal

pub returns-then-lacks_item : goal.returns-then-lacks_item
returns-then-lacks_item c = given_lacking c.args.has_class (draft_view c.args.draft.now).tables c.args.term (sym c.lacks_item.ensures ∙ c.if-lacks_item.true)

pub returns : goal.returns
returns c = given_kept c.args.has_class (draft_view c.args.draft.now).tables c.args.term c.is_indexed_late.result (sym c.lacks_item.ensures ∙ c.if-lacks_item.false) c.is_indexed_late.ensures
