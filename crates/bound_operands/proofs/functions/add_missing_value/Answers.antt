use Rattle.std.proofs.Common.{◌==◌, Bool, ◌&&◌, not, ap, sym, subst, ◌∙◌}
use Rattle.vba_base.specs.declared.place.Place.{Place}
use Rattle.bound_project.specs.DraftView.{draft_view}
use Rattle.bound_members.specs.bound_calls.specs.declared.term.Item.TheVariants as items
use Rattle.bound_members.specs.bound_calls.specs.Indexing.{AddsMissing}
use Rattle.bound_members.proofs.MemberSteps.{missing_at}
use Rattle.bound_operands.proofs.Library.{misses_value}
use Rattle.bound_operands.proofs.functions.add_missing_value.Goals as goal

pub returns : goal.returns
returns c =
    let d = draft_view c.args.draft.now in
    let e = draft_view c.push_node.new.draft in
    let x = c.args.call in
    let P : Bool → Bool → Type 0 = λ (b s : Bool). AddsMissing (items.Function x) d e (items.Function (record x { count = c.in_ok-count.count; is_wrong = b; is_started = s })) in
    let started : P c.is_wrong_without-is_wrong.result (x.is_started && not (x.count == 0)) =
    subst (λ (b : Bool). P b (x.is_started && not (x.count == 0))) (sym c.is_wrong_without-is_wrong.ensures)
    (misses_value x c.in_ok-count.count d e c.in_ok-count.ensures (c.in_ok-push_node.ensures ∙ ap (λ (place : Place). missing_at d place) c.nowhere.ensures)) in
    subst (λ (b : Bool). P c.is_wrong_without-is_wrong.result b) (sym c.is_started_without-is_started.ensures) started
