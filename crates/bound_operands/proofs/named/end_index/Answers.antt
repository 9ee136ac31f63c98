use Rattle.std.proofs.Common.{◌≡◌, List, [], sym, subst, ◌∙◌}
use Rattle.std.specs.Prelude.{reverse}
use Rattle.std.proofs.lemmas.Bool.{eqb-true}
use Rattle.std.proofs.lemmas.List.{nil_from_length}
use Rattle.std.proofs.lemmas.Result.{on_ok_weaker}
use Rattle.vba_expression.specs.declared.node.ExpressionNode.TheVariants as node
use Rattle.vba_expression.specs.Nodes.{behind_node}
use Rattle.bound_project.specs.DraftView.{draft_view}
use Rattle.bound_members.specs.bound_calls.specs.declared.term.Item.{Item}
use Rattle.bound_members.specs.bound_calls.specs.Standing.{AllNamed}
use Rattle.bound_members.specs.bound_calls.specs.Steps.{Goes}
use Rattle.bound_members.specs.bound_calls.proofs.NamedSteps.{named_under, none_on_top}
use Rattle.bound_operands.proofs.named.end_index.Goals as goal

pub returns-then-is_empty : goal.returns-then-is_empty
returns-then-is_empty c =
    let v = c.in_ok-named.named in
    let mid = reverse c.take_numbers.new.stack.items in
    let old = reverse c.args.stack.now.items in
    let empty : v.items ≡ [] = nil_from_length v.items (sym v.ok.0 ∙ eqb-true v.len 0 (sym c.if-is_empty.ensures)) in
    let same : old ≡ mid = none_on_top v.items old mid c.in_ok-named.ensures empty in
    on_ok_weaker c.step_index.result
    (λ g env told left right.
    let G : List Item → Type 0 = λ l. Goes env (draft_view c.args.draft.now) l (draft_view c.step_index.new.draft) (reverse c.step_index.new.stack.items) (behind_node (node.Index left right)) in
    subst G (sym same) (g env told left right)) c.step_index.ensures

pub index_named-requires-clause-named : goal.index_named-requires-clause-named
index_named-requires-clause-named c =
    let t = (draft_view c.args.draft.now).tables in
    let A : List Item → Type 0 = λ l. AllNamed t l in
    named_under t c.in_ok-named.named.items (reverse c.take_numbers.new.stack.items) (subst A c.in_ok-named.ensures c.requires)

pub returns : goal.returns
returns c =
    on_ok_weaker c.index_named.result
    (λ g env told left right.
    let G : List Item → Type 0 = λ l. Goes env (draft_view c.args.draft.now) l (draft_view c.index_named.new.draft) (reverse c.index_named.new.stack.items) (behind_node (node.Index left right)) in
    subst G (sym c.in_ok-named.ensures) (g env told left right)) c.index_named.ensures
