use Rattle.std.proofs.Common.{◌≡◌, List, sym, ap, subst, ◌∙◌}
use Rattle.std.specs.Prelude.{reverse}
use Rattle.std.proofs.lemmas.Result.{on_ok_weaker}
use Rattle.vba_expression.specs.declared.node.ExpressionNode.TheVariants as node
use Rattle.vba_expression.specs.Nodes.{behind_node}
use Rattle.bound_project.specs.DraftView.{draft_view}
use Rattle.bound_members.specs.bound_calls.specs.declared.term.Item.{Item}
use Rattle.bound_members.specs.bound_calls.specs.Standing.{AllNamed}
use Rattle.bound_members.specs.bound_calls.specs.Steps.{Goes}
use Rattle.bound_operands.specs.Gathering.{with_gathered}
use Rattle.bound_operands.proofs.ParamArrays.{named_below}
use Rattle.bound_operands.proofs.named.step_index.Goals as goal

pub returns-then-branch : goal.returns-then-branch
returns-then-branch c = λ env told left right. c.in_ok-index_untaken.ensures.yes c.if-branch.true env told left right

pub returns-then-values-eq0 : goal.returns-then-values-eq0
returns-then-values-eq0 c =
    let mid = reverse c.take_gathered.new.stack.items in
    let old = reverse c.args.stack.now.items in
    let kept : reverse c.index_untaken.new.stack.items ≡ old = (c.in_ok-index_untaken.ensures.no c.if-branch.false).1 in
    let same : old ≡ mid = sym kept ∙ c.in_ok-values.ensures ∙ ap (λ n. with_gathered n mid) c.if-values-eq0.true in
    on_ok_weaker c.end_index.result
    (λ g env told left right.
    let G : List Item → Type 0 = λ l. Goes env (draft_view c.args.draft.now) l (draft_view c.end_index.new.draft) (reverse c.end_index.new.stack.items) (behind_node (node.Index left right)) in
    subst G (sym same) (g env told left right)) c.end_index.ensures

pub end_index-requires : goal.end_index-requires
end_index-requires c =
    let t = (draft_view c.args.draft.now).tables in
    let A : List Item → Type 0 = λ l. AllNamed t l in
    let kept = (c.in_ok-index_untaken.ensures.no c.if-branch.false).1 in
    named_below t c.in_ok-values.values (reverse c.take_gathered.new.stack.items) (subst A (sym kept ∙ c.in_ok-values.ensures) c.requires)

pub index_gathered-requires-clause-named : goal.index_gathered-requires-clause-named
index_gathered-requires-clause-named c =
    let t = (draft_view c.args.draft.now).tables in
    let A : List Item → Type 0 = λ l. AllNamed t l in
    let kept = (c.in_ok-index_untaken.ensures.no c.if-branch.false).1 in
    named_below t c.in_ok-values.values (reverse c.take_gathered.new.stack.items) (subst A (sym kept ∙ c.in_ok-values.ensures) c.requires)

pub returns : goal.returns
returns c =
    let kept = (c.in_ok-index_untaken.ensures.no c.if-branch.false).1 in
    on_ok_weaker c.index_gathered.result
    (λ g env told left right.
    let G : List Item → Type 0 = λ l. Goes env (draft_view c.args.draft.now) l (draft_view c.index_gathered.new.draft) (reverse c.index_gathered.new.stack.items) (behind_node (node.Index left right)) in
    subst G (sym (sym kept ∙ c.in_ok-values.ensures)) (g env told left right)) c.index_gathered.ensures
