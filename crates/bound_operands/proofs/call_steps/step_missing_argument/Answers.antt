use Rattle.std.proofs.Common.{List, sym, subst}
use Rattle.std.specs.Prelude.{reverse}
use Rattle.std.proofs.lemmas.Result.{on_ok_weaker}
use Rattle.vba_expression.specs.declared.node.ExpressionNode.TheVariants as node
use Rattle.vba_expression.specs.Nodes.{behind_node}
use Rattle.bound_project.specs.DraftView.{draft_view}
use Rattle.bound_members.specs.bound_calls.specs.declared.term.Item.{Item}
use Rattle.bound_members.specs.bound_calls.specs.Standing.{AllNamed}
use Rattle.bound_members.specs.bound_calls.specs.Steps.{Goes}
use Rattle.bound_operands.proofs.ElementEnds.{goes_skipped}
use Rattle.bound_operands.proofs.call_steps.step_missing_argument.Goals as goal

pub returns : goal.returns
returns c =
    let xs = reverse c.take_item.new.stack.items in
    λ env comma. goes_skipped env c.in-Some.item c.in_ok-item.item xs (reverse c.args.stack.now.items) (reverse c.put_item.new.stack.items) comma (draft_view c.args.draft.now) (draft_view c.skip_argument.new.draft)
    c.in-Some.ensures c.in_ok-put_item.ensures c.requires c.in_ok-item.ensures

pub returns-then-gathers : goal.returns-then-gathers
returns-then-gathers c =
    let d = draft_view c.args.draft.now in
    let e = draft_view c.gather_missing.new.draft in
    λ env comma.
    let G : List Item → Type 0 = λ l. Goes env d l e (reverse c.gather_missing.new.stack.items) (behind_node (node.MissingArgument comma)) in
    subst G (sym c.in-Some.ensures) (c.in_ok-gather_missing.ensures env comma)

pub gather_missing-requires-clause-named : goal.gather_missing-requires-clause-named
gather_missing-requires-clause-named c =
    let N : List Item → Type 0 = λ l. AllNamed (draft_view c.args.draft.now).tables l in
    subst N c.in-Some.ensures c.requires

pub returns-then-is_refused : goal.returns-then-is_refused
returns-then-is_refused c =
    let d = draft_view c.args.draft.now in
    let e = draft_view c.refuse_missing.new.draft in
    on_ok_weaker c.refuse_missing.result
    (λ g env comma.
    let G : List Item → Type 0 = λ l. Goes env d l e (reverse c.refuse_missing.new.stack.items) (behind_node (node.MissingArgument comma)) in
    subst G (sym c.in-Some.ensures) (g env comma)) c.refuse_missing.ensures

pub refuse_missing-requires-clause-named : goal.refuse_missing-requires-clause-named
refuse_missing-requires-clause-named c =
    let N : List Item → Type 0 = λ l. AllNamed (draft_view c.args.draft.now).tables l in
    subst N c.in-Some.ensures c.requires
