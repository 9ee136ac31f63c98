use Rattle.std.proofs.Common.{Bool, Option, sym, subst}
use Rattle.bound_project.specs.DraftView.{draft_view}
use Rattle.bound_project.specs.declared.declared_type.DeclaredType.{DeclaredType}
use Rattle.bound_members.specs.bound_calls.specs.Steps.{PushesOperand}
use Rattle.statement_terms.specs.Assigning.{PushesFor}
use Rattle.statement_terms.proofs.GivenValues.{given_pushed, operand_pushed}
use Rattle.statement_terms.proofs.assigned_values.push_assigned.Goals as goal

pub returns-then-given : goal.returns-then-given
returns-then-given c =
    let d = draft_view c.args.draft.now in
    let m = draft_view c.given_ending.new.draft in
    let e = draft_view c.push_node.new.draft in
    let has = c.args.has_class in
    let v = c.in_ok-ending.ending in
    let A : Bool → Type 0 = λ (b : Bool). PushesFor has c.instance_of-may_be.result b c.args.tree d e v.of in
    subst A (sym c.if-given.true) (given_pushed has c.instance_of-may_be.result c.args.tree d m e v c.in_ok-ending.ensures c.in_ok-push_node.ensures c.instance_of-may_be.ensures)

pub returns : goal.returns
returns c =
    let d = draft_view c.args.draft.now in
    let e = draft_view c.push_operand.new.draft in
    let A : Option DeclaredType → Type 0 = λ o. PushesOperand c.args.tree d e o in
    let M : Option Bool → Type 0 = λ (m : Option Bool). PushesFor c.args.has_class m c.args.given c.args.tree d e c.in-Some.of in
    subst M (sym c.operand_may.ensures) (operand_pushed c.args.has_class c.args.given c.args.tree c.in-Some.of d e c.if-given.false (subst A c.in-Some.is c.in_ok-of.ensures))
