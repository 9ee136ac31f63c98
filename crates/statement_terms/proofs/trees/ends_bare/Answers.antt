use Rattle.std.proofs.Common.{List, [], ◌∷◌, ◌++◌, sym, subst}
use Rattle.vba_expression.specs.Nodes.{tree_in}
use Rattle.vba_expression.specs.declared.node.ExpressionNode.{ExpressionNode}
use Rattle.statement_terms.specs.Called.{IsBare}
use Rattle.statement_terms.proofs.NodeTrees.{bare_me, bare_member, bare_name, bare_with}
use Rattle.statement_terms.proofs.trees.ends_bare.Goals as goal

pub returns-in-Some-Name-default : goal.returns-in-Some-Name-default
returns-in-Some-Name-default c =
    let front = c.in-Some-Name-default.field-0-1.now in
    let B : List ExpressionNode → Type 0 = λ l. IsBare (tree_in l) in
    let C : ExpressionNode → Type 0 = λ n. IsBare (tree_in (front ++ n ∷ [])) in
    subst B (sym c.in-Some-Name-default.ensures.cases.0) (subst C (sym c.in-Some-Name-default.field-0-0-is) (bare_name front c.in-Some-Name-default.field-0-0-0))

pub returns-in-Some-Member-default : goal.returns-in-Some-Member-default
returns-in-Some-Member-default c =
    let front = c.in-Some-Member-default.field-0-1.now in
    let B : List ExpressionNode → Type 0 = λ l. IsBare (tree_in l) in
    let C : ExpressionNode → Type 0 = λ n. IsBare (tree_in (front ++ n ∷ [])) in
    subst B (sym c.in-Some-Member-default.ensures.cases.0) (subst C (sym c.in-Some-Member-default.field-0-0-is) (bare_member front c.in-Some-Member-default.field-0-0-0 c.in-Some-Member-default.field-0-0-1))

pub returns-in-Some-WithMember-default : goal.returns-in-Some-WithMember-default
returns-in-Some-WithMember-default c =
    let front = c.in-Some-WithMember-default.field-0-1.now in
    let B : List ExpressionNode → Type 0 = λ l. IsBare (tree_in l) in
    let C : ExpressionNode → Type 0 = λ n. IsBare (tree_in (front ++ n ∷ [])) in
    subst B (sym c.in-Some-WithMember-default.ensures.cases.0) (subst C (sym c.in-Some-WithMember-default.field-0-0-is) (bare_with front c.in-Some-WithMember-default.field-0-0-0 c.in-Some-WithMember-default.field-0-0-1))

pub returns-in-Some-Me-default : goal.returns-in-Some-Me-default
returns-in-Some-Me-default c =
    let front = c.in-Some-Me-default.field-0-1.now in
    let B : List ExpressionNode → Type 0 = λ l. IsBare (tree_in l) in
    let C : ExpressionNode → Type 0 = λ n. IsBare (tree_in (front ++ n ∷ [])) in
    subst B (sym c.in-Some-Me-default.ensures.cases.0) (subst C (sym c.in-Some-Me-default.field-0-0-is) (bare_me front c.in-Some-Me-default.field-0-0-0))
