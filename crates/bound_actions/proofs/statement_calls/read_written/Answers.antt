use Rattle.std.proofs.Common.{◌≡◌, List, [], ◌∷◌, refl, sym, ap, subst, ◌∙◌}
use Rattle.std.specs.Prelude.{reverse, map}
use Rattle.std.proofs.lemmas.Bool.{eqb-true}
use Rattle.std.proofs.lemmas.List.{nil_from_length}
use Rattle.vba_expression.specs.Nodes.{behind_nodes}
use Rattle.vba_expression.specs.declared.node.ExpressionNode.{ExpressionNode}
use Rattle.bound_project.specs.DraftView.{draft_view}
use Rattle.bound_project.specs.View.{parameter_view}
use Rattle.bound_terms.specs.bound_accesses.specs.bound_names.specs.bound_members.specs.bound_calls.specs.declared.term.Passed.{Passed}
use Rattle.bound_terms.specs.bound_accesses.specs.bound_names.specs.bound_members.specs.bound_calls.specs.declared.term.Item.{Item}
use Rattle.bound_terms.specs.bound_accesses.specs.bound_names.specs.bound_members.specs.bound_calls.specs.declared.term.Item.TheVariants as item
use Rattle.bound_terms.specs.bound_accesses.specs.bound_names.specs.bound_members.specs.bound_calls.specs.Steps.{Goes}
use Rattle.bound_actions.specs.NamedCalls.{ReadsWritten}
use Rattle.bound_terms.specs.bound_accesses.specs.bound_names.specs.View.{env_view}
use Rattle.bound_actions.proofs.NamedCalls.{reads_written}
use Rattle.bound_actions.proofs.statement_calls.read_written.Goals as goal

pub returns-then-is_empty : goal.returns-then-is_empty
returns-then-is_empty c =
    let env = env_view c.args.env in
    let d = draft_view c.args.draft.now in
    let e = draft_view c.run.new.draft in
    let ns = c.in-Some-NoArguments-default.nodes.now in
    let none : Passed = record { left = c.args.parameters; count = 0 } in
    let x = c.in-Some-Listed.passed in
    let v = c.take_item.new.stack in
    let ys = reverse c.run.new.stack.items in
    let mid = reverse c.take_numbers.new.stack.items in
    let low = reverse c.take_gathered.new.stack.items in
    let named = c.in_ok-named.named.items in
    let values = c.in_ok-values.values in
    let empty : v.items ≡ [] = nil_from_length v.items (sym v.ok.0 ∙ eqb-true v.len 0 (sym c.if-is_empty.ensures)) in
    let nothing : reverse v.items ≡ [] = ap (λ (l : List Item). reverse l) empty in
    let G : List Item → Type 0 = λ l. Goes env d l e ys (λ is. behind_nodes is ns) in
    let start : reverse c.put_item.new.stack.items ≡ item.Listed none ∷ [] = c.in_ok-put_item.ensures ∙ ap (λ l. item.Listed none ∷ reverse l) c.new-stack.ensures.items in
    let Q : ExpressionNode → Type 0 = λ n. ReadsWritten env (map parameter_view c.args.parameters.now) (n ∷ ns) d e x named values in
    let P : List ExpressionNode → Type 0 = λ l. ReadsWritten env (map parameter_view c.args.parameters.now) l d e x named values in
    subst P (sym c.in-Some-NoArguments-default.ensures.cases.0)
    (subst Q (sym c.in-Some-NoArguments-default.field-0-0-is)
    (reads_written env ns c.args.parameters.now none x named values ys mid low (reverse v.items) d e refl refl c.in_ok-named.ensures c.in_ok-values.ensures (c.in-Some-Listed.ensures ∙ ap (λ i. i ∷ reverse v.items) c.in-Some-Listed.field-0-is) nothing (subst G start c.in_ok-run.ensures)))
