use Rattle.std.proofs.Common.{◌≡◌, List, [], ◌∷◌, sym, ap, subst, ◌∙◌}
use Rattle.std.specs.Prelude.{reverse}
use Rattle.std.proofs.lemmas.Bool.{eqb-true}
use Rattle.std.proofs.lemmas.List.{nil_from_length}
use Rattle.vba_expression.specs.Nodes.{behind_nodes}
use Rattle.vba_expression.specs.declared.node.ExpressionNode.{ExpressionNode}
use Rattle.bound_project.specs.DraftView.{draft_view}
use Rattle.bound_terms.specs.bound_accesses.specs.bound_names.specs.bound_members.specs.bound_calls.specs.declared.term.Item.{Item}
use Rattle.bound_terms.specs.bound_accesses.specs.bound_names.specs.bound_members.specs.bound_calls.specs.declared.term.Item.TheVariants as item
use Rattle.bound_terms.specs.bound_accesses.specs.bound_names.specs.bound_members.specs.bound_calls.specs.Standing.{AllNamed}
use Rattle.bound_terms.specs.bound_accesses.specs.bound_names.specs.bound_members.specs.bound_calls.specs.Steps.{Goes}
use Rattle.bound_terms.specs.bound_accesses.specs.bound_names.specs.View.{env_view}
use Rattle.bound_actions.proofs.member_targets.read_member.Goals as goal

pub run-requires-clause-named : goal.run-requires-clause-named
run-requires-clause-named c =
    let start : reverse c.put_item.new.stack.items ≡ item.Member c.args.call ∷ [] = c.in_ok-put_item.ensures ∙ ap (λ l. item.Member c.args.call ∷ reverse l) c.new-stack.ensures.items in
    let N : List Item → Type 0 = λ l. AllNamed (draft_view c.args.draft.now).tables l in
    subst N (sym start) (c.requires.named, tt)

pub returns-then-is_empty : goal.returns-then-is_empty
returns-then-is_empty c =
    let env = env_view c.args.env in
    let d = draft_view c.args.draft.now in
    let e = draft_view c.run.new.draft in
    let m = c.in-Some-NoArguments-default in
    let ns = m.nodes.now in
    let v = c.take_item.new.stack in
    let empty : v.items ≡ [] = nil_from_length v.items (sym v.ok.0 ∙ eqb-true v.len 0 (sym c.if-is_empty.ensures)) in
    let none : reverse v.items ≡ [] = ap (λ (l : List Item). reverse l) empty in
    let start : reverse c.put_item.new.stack.items ≡ item.Member c.args.call ∷ [] = c.in_ok-put_item.ensures ∙ ap (λ l. item.Member c.args.call ∷ reverse l) c.new-stack.ensures.items in
    let end : reverse c.run.new.stack.items ≡ item.Member c.in-Some-Member.more ∷ [] =
    c.in-Some-Member.ensures ∙ ap (λ i. i ∷ reverse v.items) c.in-Some-Member.field-0-is ∙ ap (λ l. item.Member c.in-Some-Member.more ∷ l) none in
    let A : List Item → Type 0 = λ l. Goes env d l e (reverse c.run.new.stack.items) (λ is. behind_nodes is ns) in
    let B : List Item → Type 0 = λ l. Goes env d (item.Member c.args.call ∷ []) e l (λ is. behind_nodes is ns) in
    record { behind = ns; is = m.ensures.cases.0 ∙ ap (λ (n : ExpressionNode). n ∷ ns) m.field-0-0-is; goes = subst B end (subst A start c.in_ok-run.ensures); no_property = c.if-more.false }
