use Rattle.std.proofs.Common.{sym, subst}
use Rattle.std.specs.Prelude.{reverse}
use Rattle.std.proofs.lemmas.Result.{on_ok_weaker}
use Rattle.vba_expression.specs.declared.node.ExpressionNode.TheVariants as node
use Rattle.vba_expression.specs.declared.operator.BinaryOperator.{BinaryOperator}
use Rattle.vba_expression.specs.Nodes.{behind_node}
use Rattle.bound_project.specs.DraftView.{draft_view}
use Rattle.bound_members.specs.bound_calls.specs.Steps.{Goes}
use Rattle.bound_operands.proofs.step.step_binary.Goals as goal

pub returns-in-Is : goal.returns-in-Is
returns-in-Is c =
    let d = draft_view c.args.draft.now in
    let e = draft_view c.step_same.new.draft in
    let xs = reverse c.args.stack.now.items in
    let ys = reverse c.step_same.new.stack.items in
    on_ok_weaker c.step_same.result
    (λ g env compare. (let A : BinaryOperator → Type 0 = λ o. Goes env d xs e ys (behind_node (node.Binary o c.args.token)) in subst A (sym c.in-Is.is) (g env))) c.step_same.ensures
