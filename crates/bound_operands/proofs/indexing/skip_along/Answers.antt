use Rattle.std.proofs.Common.{sym, ap, ◌∙◌}
use Rattle.vba_base.specs.declared.place.Place.{Place}
use Rattle.bound_project.specs.DraftView.{draft_view}
use Rattle.bound_members.proofs.MemberSteps.{missing_at}
use Rattle.bound_operands.proofs.ElementEnds.{misses_along}
use Rattle.bound_operands.proofs.indexing.skip_along.Goals as goal

pub returns : goal.returns
returns c =
    let d = draft_view c.args.draft.now in
    let e = draft_view c.push_node.new.draft in
    misses_along c.args.indexed c.in_ok-count.count d e (sym c.is_along.ensures ∙ c.if-not-is_along.false) c.in_ok-count.ensures (c.in_ok-push_node.ensures ∙ ap (λ (place : Place). missing_at d place) c.nowhere.ensures)
