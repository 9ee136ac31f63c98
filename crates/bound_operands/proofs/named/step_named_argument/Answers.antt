use Rattle.std.proofs.Common.{◌≡◌, List, ◌∷◌, sym, ap, subst, ◌∙◌}
use Rattle.std.specs.Prelude.{OnOk, Option, reverse}
use Rattle.std.proofs.lemmas.Result.{on_ok_weaker}
use Rattle.vba_lexer.specs.declared.token.Token.{Token}
use Rattle.vba_expression.specs.declared.node.ExpressionNode.TheVariants as node
use Rattle.vba_expression.specs.Nodes.{behind_node}
use Rattle.bound_project.specs.DraftView.{draft_view}
use Rattle.bound_members.specs.bound_calls.specs.bound_forms.specs.Terms as plain
use Rattle.bound_members.specs.bound_calls.specs.declared.term.Item.{Item}
use Rattle.bound_members.specs.bound_calls.specs.declared.term.Item.TheVariants as item
use Rattle.bound_members.specs.bound_calls.specs.Standing.{AllNamed}
use Rattle.bound_members.specs.bound_calls.specs.Steps.{Goes}
use Rattle.bound_operands.proofs.named.step_named_argument.Goals as goal

pub give_named-requires : goal.give_named-requires
give_named-requires c =
    let x = c.in-Some-Tree.tree in
    let call = c.in-Some-Member.call in
    let rest = reverse c.take_item-2.new.stack.items in
    let below : reverse c.take_item.new.stack.items ≡ item.Member call ∷ rest = c.in-Some-Member.ensures ∙ ap (λ i. i ∷ rest) c.in-Some-Member.field-0-is in
    let whole : reverse c.args.stack.now.items ≡ item.Tree x ∷ item.Member call ∷ rest =
    c.in-Some-Tree.ensures ∙ ap (λ i. i ∷ reverse c.take_item.new.stack.items) c.in-Some-Tree.field-0-is ∙ ap (λ (l : List Item). item.Tree x ∷ l) below in
    let N : List Item → Type 0 = λ (l : List Item). AllNamed (draft_view c.args.draft.now).tables l in
    subst N whole c.requires

pub returns-in-Some-Member : goal.returns-in-Some-Member
returns-in-Some-Member c =
    let x = c.in-Some-Tree.tree in
    let call = c.in-Some-Member.call in
    let rest = reverse c.take_item-2.new.stack.items in
    let below : reverse c.take_item.new.stack.items ≡ item.Member call ∷ rest = c.in-Some-Member.ensures ∙ ap (λ i. i ∷ rest) c.in-Some-Member.field-0-is in
    let whole : reverse c.args.stack.now.items ≡ item.Tree x ∷ item.Member call ∷ rest =
    c.in-Some-Tree.ensures ∙ ap (λ i. i ∷ reverse c.take_item.new.stack.items) c.in-Some-Tree.field-0-is ∙ ap (λ (l : List Item). item.Tree x ∷ l) below in
    let d = draft_view c.args.draft.now in
    let e = draft_view c.give_named.new.draft in
    let new = reverse c.give_named.new.stack.items in
    let A : List Item → Type 0 = λ (l : List Item). OnOk c.give_named.result ((env : plain.Env) (comma : Option Token) (mark : Token) → Goes env d l e new (behind_node (node.NamedArgument comma c.args.name.now mark))) in
    subst A (sym whole) c.give_named.ensures

pub give_function-requires : goal.give_function-requires
give_function-requires c =
    let x = c.in-Some-Tree.tree in
    let call = c.in-Some-Function.call in
    let rest = reverse c.take_item-2.new.stack.items in
    let below : reverse c.take_item.new.stack.items ≡ item.Function call ∷ rest = c.in-Some-Function.ensures ∙ ap (λ i. i ∷ rest) c.in-Some-Function.field-0-is in
    let whole : reverse c.args.stack.now.items ≡ item.Tree x ∷ item.Function call ∷ rest =
    c.in-Some-Tree.ensures ∙ ap (λ i. i ∷ reverse c.take_item.new.stack.items) c.in-Some-Tree.field-0-is ∙ ap (λ (l : List Item). item.Tree x ∷ l) below in
    let N : List Item → Type 0 = λ (l : List Item). AllNamed (draft_view c.args.draft.now).tables l in
    subst N whole c.requires

pub returns-in-Some-Function : goal.returns-in-Some-Function
returns-in-Some-Function c =
    let x = c.in-Some-Tree.tree in
    let call = c.in-Some-Function.call in
    let rest = reverse c.take_item-2.new.stack.items in
    let below : reverse c.take_item.new.stack.items ≡ item.Function call ∷ rest = c.in-Some-Function.ensures ∙ ap (λ i. i ∷ rest) c.in-Some-Function.field-0-is in
    let whole : reverse c.args.stack.now.items ≡ item.Tree x ∷ item.Function call ∷ rest =
    c.in-Some-Tree.ensures ∙ ap (λ i. i ∷ reverse c.take_item.new.stack.items) c.in-Some-Tree.field-0-is ∙ ap (λ (l : List Item). item.Tree x ∷ l) below in
    let d = draft_view c.args.draft.now in
    let e = draft_view c.give_function.new.draft in
    let new = reverse c.give_function.new.stack.items in
    let A : List Item → Type 0 = λ (l : List Item). OnOk c.give_function.result ((env : plain.Env) (comma : Option Token) (mark : Token) → Goes env d l e new (behind_node (node.NamedArgument comma c.args.name.now mark))) in
    subst A (sym whole) (on_ok_weaker c.give_function.result (λ g env comma mark. g env comma c.args.name.now mark) c.give_function.ensures)

pub pass_named-requires : goal.pass_named-requires
pass_named-requires c =
    let x = c.in-Some-Tree.tree in
    let whole : reverse c.args.stack.now.items ≡ item.Tree x ∷ reverse c.put_item.new.stack.items =
    c.in-Some-Tree.ensures ∙ ap (λ i. i ∷ reverse c.take_item.new.stack.items) c.in-Some-Tree.field-0-is ∙ ap (λ (l : List Item). item.Tree x ∷ l) (c.in-Some.ensures ∙ sym c.in_ok-put_item-in-Some.ensures) in
    let N : List Item → Type 0 = λ (l : List Item). AllNamed (draft_view c.args.draft.now).tables l in
    subst N whole c.requires

pub returns-in_ok-put_item-in-Some : goal.returns-in_ok-put_item-in-Some
returns-in_ok-put_item-in-Some c =
    let x = c.in-Some-Tree.tree in
    let whole : reverse c.args.stack.now.items ≡ item.Tree x ∷ reverse c.put_item.new.stack.items =
    c.in-Some-Tree.ensures ∙ ap (λ i. i ∷ reverse c.take_item.new.stack.items) c.in-Some-Tree.field-0-is ∙ ap (λ (l : List Item). item.Tree x ∷ l) (c.in-Some.ensures ∙ sym c.in_ok-put_item-in-Some.ensures) in
    let d = draft_view c.args.draft.now in
    let e = draft_view c.pass_named.new.draft in
    let new = reverse c.pass_named.new.stack.items in
    let A : List Item → Type 0 = λ (l : List Item). OnOk c.pass_named.result ((env : plain.Env) (comma : Option Token) (mark : Token) → Goes env d l e new (behind_node (node.NamedArgument comma c.args.name.now mark))) in
    subst A (sym whole) c.pass_named.ensures

pub refuse-requires-clause-named : goal.refuse-requires-clause-named
refuse-requires-clause-named c =
    let x = c.in-Some-Tree.tree in
    let whole : reverse c.args.stack.now.items ≡ item.Tree x ∷ c.in-Some.item ∷ reverse c.take_item-2.new.stack.items =
    c.in-Some-Tree.ensures ∙ ap (λ i. i ∷ reverse c.take_item.new.stack.items) c.in-Some-Tree.field-0-is ∙ ap (λ (l : List Item). item.Tree x ∷ l) c.in-Some.ensures in
    let N : List Item → Type 0 = λ (l : List Item). AllNamed (draft_view c.args.draft.now).tables l in
    subst N whole c.requires

pub returns-then-is_refused : goal.returns-then-is_refused
returns-then-is_refused c =
    let x = c.in-Some-Tree.tree in
    let whole : reverse c.args.stack.now.items ≡ item.Tree x ∷ c.in-Some.item ∷ reverse c.take_item-2.new.stack.items =
    c.in-Some-Tree.ensures ∙ ap (λ i. i ∷ reverse c.take_item.new.stack.items) c.in-Some-Tree.field-0-is ∙ ap (λ (l : List Item). item.Tree x ∷ l) c.in-Some.ensures in
    let d = draft_view c.args.draft.now in
    let e = draft_view c.refuse.new.draft in
    let new = reverse c.refuse.new.stack.items in
    on_ok_weaker c.refuse.result
    (λ g env comma mark.
    let A : List Item → Type 0 = λ (l : List Item). Goes env d l e new (behind_node (node.NamedArgument comma c.args.name.now mark)) in
    subst A (sym whole) (g env comma mark)) c.refuse.ensures
