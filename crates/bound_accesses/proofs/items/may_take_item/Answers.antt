use Rattle.std.proofs.Common.{sym, ◌∙◌}
use Rattle.bound_project.specs.DraftView.{draft_view}
use Rattle.bound_accesses.proofs.ItemTerms.{keeps_plain, takes_early}
use Rattle.bound_accesses.proofs.items.may_take_item.Goals as goal

pub returns-then-not-is_host_term : goal.returns-then-not-is_host_term
returns-then-not-is_host_term c = keeps_plain c.args.has_class (draft_view c.args.draft.now).tables c.args.term (sym c.is_host_term.ensures ∙ c.if-not-is_host_term.true)

pub returns : goal.returns
returns c = takes_early c.args.has_class (draft_view c.args.draft.now).tables c.args.term c.is_late_term.result (sym c.is_host_term.ensures ∙ c.if-not-is_host_term.false) c.is_late_term.ensures
