use Rattle.std.proofs.Common.{false}
use Rattle.std.proofs.lemmas.Result.{IfOk-weaker}
use Rattle.bound_project.specs.DraftView.{draft_view}
use Rattle.bound_actions.proofs.Letting.{assigns_plainly, assigns_unread, other_is}
use Rattle.bound_actions.proofs.assigning.assign_other.Goals as goal

pub assign_routine-requires : goal.assign_routine-requires
assign_routine-requires c = c.in-Routine.is

pub returns-in_ok-kind-in-Routine : goal.returns-in_ok-kind-in-Routine
returns-in_ok-kind-in-Routine c =
    let d = draft_view c.args.draft.now in
    let e = draft_view c.assign_routine.new.draft in
    let k = c.in_ok-kind-in-Routine.kind in
    other_is c.args.has_class c.args.may_be c.args.tree d e k c.as_operand.result.kind false c.as_operand.result.is_given c.as_operand.ensures.kind c.as_operand.ensures.given (c.in_ok-kind-in-Routine.ensures c.args.may_be)

pub returns-in_ok-kind-in-Property : goal.returns-in_ok-kind-in-Property
returns-in_ok-kind-in-Property c =
    let d = draft_view c.args.draft.now in
    let e = draft_view c.break_procedure.new.draft in
    let k = c.in_ok-kind-in-Property.kind in
    let done = c.as_operand-in-Property in
    other_is c.args.has_class c.args.may_be c.args.tree d e k done.result.kind false done.result.is_given done.ensures.kind done.ensures.given
    (assigns_unread c.args.has_class c.args.may_be c.args.tree c.in-Property.property d e k c.in-Property.is c.in_ok-kind-in-Property.ensures)

pub returns-in_default : goal.returns-in_default
returns-in_default c =
    let d = draft_view c.args.draft.now in
    let e = draft_view c.assign_tree.new.draft in
    IfOk-weaker c.assign_tree.result _ _ (λ done a. assigns_plainly c.args.has_class c.args.may_be c.args.tree d e done.kind done.is_given a) c.assign_tree.ensures
