use Rattle.std.proofs.Common.{◌∷◌, ap, ◌∙◌}
use Rattle.std.specs.Prelude.{reverse}
use Rattle.bound_project.specs.DraftView.{draft_view}
use Rattle.bound_operands.proofs.ParamArrays.{goes_index}
use Rattle.bound_operands.proofs.gathering.index_gathered.Goals as goal

pub returns : goal.returns
returns c =
    let xs = reverse c.take_item.new.stack.items in
    λ env told left right. goes_index env c.in-Some-Call.call c.args.values c.in_ok-ending.ending c.args.declared told left right xs (reverse c.args.stack.now.items) (reverse c.put_item.new.stack.items) (draft_view c.args.draft.now)
    (draft_view c.gathered_ending.new.draft) c.requires.some (c.in-Some-Call.ensures ∙ ap (λ i. i ∷ xs) c.in-Some-Call.field-0-is) c.in_ok-put_item.ensures c.requires.named c.in_ok-ending.ensures
