use Rattle.std.proofs.Common.{List, ◌∷◌, refl, sym, ap, ◌∙◌}
use Rattle.std.specs.Prelude.{option_map, reverse}
use Rattle.bound_project.specs.DraftView.{draft_view}
use Rattle.bound_members.specs.bound_calls.specs.declared.term.Item.{Item}
use Rattle.bound_members.specs.bound_calls.specs.declared.term.Item.TheVariants as item
use Rattle.bound_members.specs.bound_calls.specs.InOrder.{found_view}
use Rattle.bound_members.specs.bound_calls.specs.Standing.{passed_below}
use Rattle.bound_members.specs.bound_calls.proofs.NamedSteps.{goes_named}
use Rattle.bound_operands.proofs.named.pass_named.Goals as goal

pub pass_tree-requires : goal.pass_tree-requires
pass_tree-requires c = c.requires.0

pub returns : goal.returns
returns c =
    let x = c.args.tree in
    let xs = reverse c.args.stack.now.items in
    let p = c.in-Some.passed in
    let parameter = c.in-Some-2.parameter.now in
    λ env comma mark. goes_named env x xs (item.Tree x ∷ xs) (reverse c.put_item.new.stack.items) p c.in-Some-2.number parameter c.args.name.now comma mark (draft_view c.args.draft.now) (draft_view c.pass_tree.new.draft)
    refl c.in_ok-put_item.ensures (sym (c.in-Some.ensures ∙ ap (λ (l : List Item). passed_below (reverse l)) c.deref.ensures.value))
    (sym c.in_ok-number.ensures ∙ ap (λ o. option_map (λ f. found_view (f.0, f.1.now)) o) c.in-Some-2.is) c.requires c.in_ok-pass_tree.ensures
