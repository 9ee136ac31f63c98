use Rattle.std.proofs.Common.{true, false, refl, ap}
use Rattle.bound_project.specs.DraftView.{draft_view}
use Rattle.bound_project.specs.View.{declarations_view}
use Rattle.bound_members.specs.bound_calls.specs.declared.term.Term.{Term}
use Rattle.bound_members.specs.bound_calls.specs.declared.term.Term.TheVariants as term
use Rattle.statement_terms.specs.Members.{is_err_term}
use Rattle.statement_terms.proofs.WrittenMembers.{tree_assigned}
use Rattle.statement_terms.proofs.WrittenTargets.{term_in}
use Rattle.statement_terms.proofs.assigning.assign_tree.Goals as goal

pub returns-in_ok-kind-in-Place : goal.returns-in_ok-kind-in-Place
returns-in_ok-kind-in-Place c =
    let i = c.in-Place in
    let d = draft_view c.args.draft.now in
    let e = draft_view c.assign_place.new.draft in
    tree_assigned c.args.has_class c.args.may_be c.args.tree (term.Place i.kind i.of i.bounds i.lends i.makes) d e c.in_ok-kind-in-Place.kind c.as_operand.result.kind false c.as_operand.result.is_given i.is c.as_operand.ensures.kind c.as_operand.ensures.given (c.in_ok-kind-in-Place.ensures i.bounds i.lends c.args.may_be)

pub returns-in_ok-kind-in-Value : goal.returns-in_ok-kind-in-Value
returns-in_ok-kind-in-Value c =
    let i = c.in-Value in
    let d = draft_view c.args.draft.now in
    let e = draft_view c.assign_value.new.draft in
    tree_assigned c.args.has_class c.args.may_be c.args.tree (term.Value i.ending) d e c.in_ok-kind-in-Value.kind c.as_operand-in-Value.result.kind false c.as_operand-in-Value.result.is_given i.is c.as_operand-in-Value.ensures.kind c.as_operand-in-Value.ensures.given (c.in_ok-kind-in-Value.ensures c.args.may_be)

pub returns-in_ok-kind-in-HostMember : goal.returns-in_ok-kind-in-HostMember
returns-in_ok-kind-in-HostMember c =
    let i = c.in-HostMember in
    let d = draft_view c.args.draft.now in
    let e = draft_view c.assign_member.new.draft in
    tree_assigned c.args.has_class c.args.may_be c.args.tree (term.HostMember i.member) d e c.in_ok-kind-in-HostMember.kind c.as_given.result.kind true c.as_given.result.is_given i.is c.as_given.ensures.kind c.as_given.ensures.given
    (term_in (declarations_view c.args.tree.declared.now) c.args.has_class c.args.may_be c.args.tree.place (term.HostMember i.member) d e c.in_ok-kind-in-HostMember.kind true (c.in_ok-kind-in-HostMember.ensures c.args.has_class))

pub returns-in_ok-kind-in-SheetMember : goal.returns-in_ok-kind-in-SheetMember
returns-in_ok-kind-in-SheetMember c =
    let i = c.in-SheetMember in
    let d = draft_view c.args.draft.now in
    let e = draft_view c.assign_sheet.new.draft in
    tree_assigned c.args.has_class c.args.may_be c.args.tree (term.SheetMember i.member) d e c.in_ok-kind-in-SheetMember.kind c.as_given-in-SheetMember.result.kind true c.as_given-in-SheetMember.result.is_given i.is c.as_given-in-SheetMember.ensures.kind c.as_given-in-SheetMember.ensures.given
    (term_in (declarations_view c.args.tree.declared.now) c.args.has_class c.args.may_be c.args.tree.place (term.SheetMember i.member) d e c.in_ok-kind-in-SheetMember.kind true (c.in_ok-kind-in-SheetMember.ensures c.args.has_class))

pub assign_function-requires : goal.assign_function-requires
assign_function-requires c = c.in-Function.is

pub returns-in_ok-kind-in-Function : goal.returns-in_ok-kind-in-Function
returns-in_ok-kind-in-Function c =
    let d = draft_view c.args.draft.now in
    let e = draft_view c.assign_function.new.draft in
    tree_assigned c.args.has_class c.args.may_be c.args.tree c.args.tree.term d e c.in_ok-kind-in-Function.kind c.as_operand-in-Function.result.kind false c.as_operand-in-Function.result.is_given refl c.as_operand-in-Function.ensures.kind
    c.as_operand-in-Function.ensures.given (c.in_ok-kind-in-Function.ensures c.args.may_be)

pub refuse_err-requires : goal.refuse_err-requires
refuse_err-requires c = ap (λ (t : Term). is_err_term t) c.in-Err.is

pub returns-in_ok-kind-in-Err : goal.returns-in_ok-kind-in-Err
returns-in_ok-kind-in-Err c =
    let d = draft_view c.args.draft.now in
    let e = draft_view c.refuse_err.new.draft in
    tree_assigned c.args.has_class c.args.may_be c.args.tree c.args.tree.term d e c.in_ok-kind-in-Err.kind c.as_operand-in-Err.result.kind false c.as_operand-in-Err.result.is_given refl c.as_operand-in-Err.ensures.kind
    c.as_operand-in-Err.ensures.given (c.in_ok-kind-in-Err.ensures c.args.has_class c.args.may_be)

pub returns-in_ok-kind-in-ErrRaise : goal.returns-in_ok-kind-in-ErrRaise
returns-in_ok-kind-in-ErrRaise c =
    let d = draft_view c.args.draft.now in
    let e = draft_view c.refuse_err-in-ErrRaise.new.draft in
    tree_assigned c.args.has_class c.args.may_be c.args.tree c.args.tree.term d e c.in_ok-kind-in-ErrRaise.kind c.as_operand-in-ErrRaise.result.kind false c.as_operand-in-ErrRaise.result.is_given refl c.as_operand-in-ErrRaise.ensures.kind
    c.as_operand-in-ErrRaise.ensures.given (c.in_ok-kind-in-ErrRaise.ensures c.args.has_class c.args.may_be)

pub returns-in_ok-kind-in-ErrClear : goal.returns-in_ok-kind-in-ErrClear
returns-in_ok-kind-in-ErrClear c =
    let d = draft_view c.args.draft.now in
    let e = draft_view c.refuse_err-in-ErrClear.new.draft in
    tree_assigned c.args.has_class c.args.may_be c.args.tree c.args.tree.term d e c.in_ok-kind-in-ErrClear.kind c.as_operand-in-ErrClear.result.kind false c.as_operand-in-ErrClear.result.is_given refl c.as_operand-in-ErrClear.ensures.kind
    c.as_operand-in-ErrClear.ensures.given (c.in_ok-kind-in-ErrClear.ensures c.args.has_class c.args.may_be)
