use Rattle.std.proofs.Common.{◌≡◌, List, ◌∷◌, sym, ap, subst, ◌∙◌}
use Rattle.std.specs.Prelude.{reverse}
use Rattle.std.proofs.lemmas.Result.{on_ok_weaker}
use Rattle.vba_expression.specs.declared.node.ExpressionNode.TheVariants as node
use Rattle.vba_expression.specs.Nodes.{behind_node}
use Rattle.bound_project.specs.DraftView.{draft_view}
use Rattle.bound_members.specs.bound_calls.specs.declared.term.Item.{Item}
use Rattle.bound_members.specs.bound_calls.specs.declared.term.Item.TheVariants as item
use Rattle.bound_members.specs.bound_calls.specs.Standing.{AllNamed}
use Rattle.bound_members.specs.bound_calls.specs.Steps.{Goes}
use Rattle.bound_operands.proofs.ElementEnds.{goes_argument}
use Rattle.bound_operands.proofs.call_steps.step_plain_argument.Goals as goal

pub returns : goal.returns
returns c =
    let x = c.in-Some-Tree.tree in
    let between = reverse c.take_item.new.stack.items in
    let xs = reverse c.take_item-2.new.stack.items in
    λ env comma. goes_argument env x c.in-Some.item c.in_ok-item.item xs (reverse c.args.stack.now.items) between (reverse c.put_item.new.stack.items) comma (draft_view c.args.draft.now) (draft_view c.add_argument.new.draft)
    (c.in-Some-Tree.ensures ∙ ap (λ i. i ∷ between) c.in-Some-Tree.field-0-is) c.in-Some.ensures c.in_ok-put_item.ensures c.requires c.in_ok-item.ensures

pub returns-then-gathers : goal.returns-then-gathers
returns-then-gathers c =
    let x = c.in-Some-Tree.tree in
    let between = reverse c.take_item.new.stack.items in
    let xs = reverse c.take_item-2.new.stack.items in
    let d = draft_view c.args.draft.now in
    let e = draft_view c.gather.new.draft in
    let top : reverse c.args.stack.now.items ≡ item.Tree x ∷ c.in-Some.item ∷ xs = c.in-Some-Tree.ensures ∙ ap (λ i. i ∷ between) c.in-Some-Tree.field-0-is ∙ ap (λ l. item.Tree x ∷ l) c.in-Some.ensures in
    λ env comma.
    let G : List Item → Type 0 = λ l. Goes env d l e (reverse c.gather.new.stack.items) (behind_node (node.PlainArgument comma)) in
    subst G (sym top) (c.in_ok-gather.ensures env comma)

pub gather-requires-clause-named : goal.gather-requires-clause-named
gather-requires-clause-named c =
    let x = c.in-Some-Tree.tree in
    let between = reverse c.take_item.new.stack.items in
    let xs = reverse c.take_item-2.new.stack.items in
    let top : reverse c.args.stack.now.items ≡ item.Tree x ∷ c.in-Some.item ∷ xs = c.in-Some-Tree.ensures ∙ ap (λ i. i ∷ between) c.in-Some-Tree.field-0-is ∙ ap (λ l. item.Tree x ∷ l) c.in-Some.ensures in
    let N : List Item → Type 0 = λ l. AllNamed (draft_view c.args.draft.now).tables l in
    subst N top c.requires

pub returns-then-is_refused : goal.returns-then-is_refused
returns-then-is_refused c =
    let x = c.in-Some-Tree.tree in
    let between = reverse c.take_item.new.stack.items in
    let xs = reverse c.take_item-2.new.stack.items in
    let d = draft_view c.args.draft.now in
    let e = draft_view c.refuse.new.draft in
    let top : reverse c.args.stack.now.items ≡ item.Tree x ∷ c.in-Some.item ∷ xs = c.in-Some-Tree.ensures ∙ ap (λ i. i ∷ between) c.in-Some-Tree.field-0-is ∙ ap (λ l. item.Tree x ∷ l) c.in-Some.ensures in
    on_ok_weaker c.refuse.result
    (λ g env comma.
    let G : List Item → Type 0 = λ l. Goes env d l e (reverse c.refuse.new.stack.items) (behind_node (node.PlainArgument comma)) in
    subst G (sym top) (g env comma)) c.refuse.ensures

pub refuse-requires-clause-named : goal.refuse-requires-clause-named
refuse-requires-clause-named c =
    let x = c.in-Some-Tree.tree in
    let between = reverse c.take_item.new.stack.items in
    let xs = reverse c.take_item-2.new.stack.items in
    let top : reverse c.args.stack.now.items ≡ item.Tree x ∷ c.in-Some.item ∷ xs = c.in-Some-Tree.ensures ∙ ap (λ i. i ∷ between) c.in-Some-Tree.field-0-is ∙ ap (λ l. item.Tree x ∷ l) c.in-Some.ensures in
    let N : List Item → Type 0 = λ l. AllNamed (draft_view c.args.draft.now).tables l in
    subst N top c.requires
