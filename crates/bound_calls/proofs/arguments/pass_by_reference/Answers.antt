use Rattle.std.proofs.Common.{sym}
use Rattle.std.proofs.lemmas.Result.{on_ok_weaker}
use Rattle.bound_project.specs.DraftView.{draft_view}
use Rattle.bound_calls.proofs.Arguing.{passed_anyway, nothing_lent}
use Rattle.bound_calls.proofs.arguments.pass_by_reference.Goals as goal

pub returns-in-None : goal.returns-in-None
returns-in-None c =
    on_ok_weaker c.copy.result
    (λ h. passed_anyway c.args.parameter.now c.args.tree (draft_view c.args.draft.now) (draft_view c.copy.new.draft) c.requires.one c.requires.reference (nothing_lent c.args.tree.term (sym c.in-None.ensures)) h) c.copy.ensures
