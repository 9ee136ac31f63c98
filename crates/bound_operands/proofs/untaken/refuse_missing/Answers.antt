use Rattle.std.proofs.Common.{◌∷◌, ap, ◌∙◌}
use Rattle.std.specs.Prelude.{reverse}
use Rattle.vba_base.specs.declared.place.Place.{Place}
use Rattle.bound_project.specs.DraftView.{draft_view}
use Rattle.bound_members.specs.bound_calls.specs.declared.term.Item.TheVariants as item
use Rattle.bound_members.proofs.MemberSteps.{missing_at}
use Rattle.bound_operands.proofs.Untaking.{goes_missing, not_written}
use Rattle.bound_operands.proofs.untaken.refuse_missing.Goals as goal

pub returns : goal.returns
returns c =
    let d = draft_view c.args.draft.now in
    let e = draft_view c.push_node.new.draft in
    λ env comma. goes_missing env c.args.item (reverse c.args.stack.now.items) (reverse c.put_item-2.new.stack.items) comma d e (c.in_ok-put_item-2.ensures ∙ ap (λ l. item.Shape not_written ∷ l) c.in_ok-put_item.ensures) c.requires.refused c.requires.named
    (c.in_ok-push_node.ensures ∙ ap (λ (place : Place). missing_at d place) c.nowhere.ensures)
