use Rattle.std.proofs.Common.{sym, ◌∙◌}
use Rattle.std.proofs.lemmas.Result.{on_ok_weaker}
use Rattle.bound_project.specs.DraftView.{draft_view}
use Rattle.bound_calls.proofs.Arguing.{passed_lent, passed_copied, passed_other}
use Rattle.bound_calls.proofs.arguments.pass_lent.Goals as goal

pub returns-then-is_fitting : goal.returns-then-is_fitting
returns-then-is_fitting c =
    passed_lent c.args.parameter.now c.args.tree c.args.lent (draft_view c.args.draft.now) (draft_view c.lend.new.draft) c.requires.one c.requires.reference c.requires.lends (sym c.is_fitting.ensures ∙ c.if-is_fitting.true) c.in_ok-lend.ensures

pub returns-then-is_copied : goal.returns-then-is_copied
returns-then-is_copied c =
    on_ok_weaker c.copy.result
    (λ h. passed_copied c.args.parameter.now c.args.tree c.args.lent (draft_view c.args.draft.now) (draft_view c.copy.new.draft) c.requires.one c.requires.reference c.requires.lends (sym c.is_fitting.ensures ∙ c.if-is_fitting.false)
    (sym c.is_copied.ensures ∙ c.if-is_copied.true) h) c.copy.ensures

pub returns : goal.returns
returns c =
    passed_other c.args.parameter.now c.args.tree c.args.lent (draft_view c.args.draft.now) (draft_view c.mark_other.new.draft) c.requires.one c.requires.reference c.requires.lends (sym c.is_fitting.ensures ∙ c.if-is_fitting.false)
    (sym c.is_copied.ensures ∙ c.if-is_copied.false) c.in_ok-mark_other.ensures
