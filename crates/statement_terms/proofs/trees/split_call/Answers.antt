use Rattle.std.proofs.Common.{◌≡◌, [], ◌∷◌, ◌++◌, subst}
use Rattle.vba_expression.specs.declared.node.ExpressionNode.{ExpressionNode}
use Rattle.statement_terms.specs.declared.trees.Split.{Split}
use Rattle.statement_terms.proofs.NodeTrees.{split_found}
use Rattle.statement_terms.proofs.trees.split_call.Goals as goal

pub returns-in-Some-Index-default : goal.returns-in-Some-Index-default
returns-in-Some-Index-default c =
    let m = c.in-Some-Index-default in
    let split : Split = record { target = c.in-Some.target; arguments = m.arguments; closed = c.in-Some.closed } in
    let C : ExpressionNode → Type 0 = λ n. c.in-Some.closed.now ≡ m.arguments.now ++ n ∷ [] in
    let parts = c.in-Some.ensures.cases in
    split_found split c.args.nodes.now c.arguments_start.result m.field-0-0-0 m.field-0-0-1 parts.1 parts.2 (subst C m.field-0-0-is m.ensures.cases.0)
