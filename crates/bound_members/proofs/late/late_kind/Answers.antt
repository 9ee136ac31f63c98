use Rattle.std.proofs.Common.{sym, subst, ◌∙◌}
use Rattle.std.specs.Prelude.{MatchBool}
use Rattle.bound_project.specs.DraftView.{draft_view}
use Rattle.bound_members.specs.Late.{LateCame}
use Rattle.bound_members.proofs.LateSteps.{late_kind_ends}
use Rattle.bound_members.proofs.late.late_kind.Goals as goal

pub returns : goal.returns
returns c =
    let t = (draft_view c.args.draft.now).tables in
    let came = subst (λ b. MatchBool b (LateCame t c.args.call c.args.found) (Unit {0})) c.if-not-late_came.false c.late_came.ensures in
    late_kind_ends c.args.call t c.args.found c.requires (sym c.is_called_late.ensures ∙ c.if-not-is_called_late.false) came (sym c.is_misnamed.ensures ∙ c.if-is_misnamed.false)
