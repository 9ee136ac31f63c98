use Rattle.std.proofs.Common.{None, sym, subst}
use Rattle.std.specs.Prelude.{IfOk}
use Rattle.bound_project.specs.DraftView.{draft_view}
use Rattle.bound_project.specs.View.{declarations_view}
use Rattle.bound_members.specs.bound_calls.specs.declared.term.Item.{Item}
use Rattle.bound_members.specs.bound_calls.specs.Indexing.{Closes}
use Rattle.bound_members.specs.bound_calls.specs.Standing.{ItemNamed}
use Rattle.bound_members.proofs.MemberSteps.{closes_member}
use Rattle.bound_operands.proofs.ElementEnds.{ended, closes_indexed}
use Rattle.bound_operands.proofs.Library.{ended_function, closes_function}
use Rattle.bound_operands.proofs.indexing.end_arguments.Goals as goal

pub returns-in-Call : goal.returns-in-Call
returns-in-Call c =
    let A : Item → Type 0 = λ (i : Item). IfOk c.close_call.result (λ tree. Closes (declarations_view c.args.declared.now) i (draft_view c.args.draft.now) (draft_view c.close_call.new.draft) tree) in
    subst A (sym c.in-Call.is) c.close_call.ensures

pub returns-in_ok-term-in-Indexed : goal.returns-in_ok-term-in-Indexed
returns-in_ok-term-in-Indexed c =
    let d = draft_view c.args.draft.now in
    let x = c.in-Indexed.indexed in
    let y = c.in_ok-term-in-Indexed.term in
    let A : Item → Type 0 = λ (i : Item). Closes (declarations_view c.args.declared.now) i d d (ended x y c.args.declared) in
    subst A (sym c.in-Indexed.is) (closes_indexed x y c.args.declared d c.in_ok-term-in-Indexed.ensures)

pub returns-in_ok-term-in-Function : goal.returns-in_ok-term-in-Function
returns-in_ok-term-in-Function c =
    let d = draft_view c.args.draft.now in
    let x = c.in-Function.call in
    let y = c.in_ok-term-in-Function.term in
    let A : Item → Type 0 = λ (i : Item). Closes (declarations_view c.args.declared.now) i d d (ended_function x y c.args.declared) in
    subst A (sym c.in-Function.is) (closes_function x y c.args.declared d c.in_ok-term-in-Function.ensures)

pub returns-in_ok-term-in-Member : goal.returns-in_ok-term-in-Member
returns-in_ok-term-in-Member c =
    let d = draft_view c.args.draft.now in
    let x = c.in-Member.call in
    let y = c.in_ok-term-in-Member.term in
    let A : Item → Type 0 = λ (i : Item). Closes (declarations_view c.args.declared.now) i d d (record { place = x.place; name = None; dotted = None; term = y; declared = c.args.declared }) in
    let N : Item → Type 0 = λ (i : Item). ItemNamed d.tables i in
    subst A (sym c.in-Member.is) (closes_member x y c.args.declared d (subst N c.in-Member.is c.requires) c.in_ok-term-in-Member.ensures)
