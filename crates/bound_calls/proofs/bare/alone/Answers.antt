use Rattle.std.proofs.Common.{sym, subst}
use Rattle.bound_project.specs.DraftView.{draft_view}
use Rattle.bound_calls.specs.declared.term.Term.{Term}
use Rattle.bound_calls.specs.declared.term.Term.TheVariants as term
use Rattle.bound_calls.specs.Taking.{StandsAlone}
use Rattle.bound_calls.proofs.Lacking.{alone_function, alone_member, alone_property, alone_routine, alone_sheet}
use Rattle.bound_calls.proofs.bare.alone.Goals as goal

pub returns-in_ok-ending-in-Routine : goal.returns-in_ok-ending-in-Routine
returns-in_ok-ending-in-Routine c =
    let d = draft_view c.args.draft.now in
    let e = draft_view c.called_ending.new.draft in
    let v = c.in_ok-ending-in-Routine.ending in
    let P : Term → Type 0 = λ t. StandsAlone t c.args.place d e (term.Value v) in
    subst P (sym c.in-Routine.is) (alone_routine c.in-Routine.routine c.args.place d e v c.in_ok-ending-in-Routine.ensures)

pub returns-in_ok-ending-in-HostMember : goal.returns-in_ok-ending-in-HostMember
returns-in_ok-ending-in-HostMember c =
    let d = draft_view c.args.draft.now in
    let e = draft_view c.member_alone.new.draft in
    let v = c.in_ok-ending-in-HostMember.ending in
    let P : Term → Type 0 = λ t. StandsAlone t c.args.place d e (term.Value v) in
    subst P (sym c.in-HostMember.is) (alone_member c.in-HostMember.member c.args.place d e v c.in_ok-ending-in-HostMember.ensures)

pub returns-in_ok-ending-in-SheetMember : goal.returns-in_ok-ending-in-SheetMember
returns-in_ok-ending-in-SheetMember c =
    let d = draft_view c.args.draft.now in
    let e = draft_view c.sheet_alone.new.draft in
    let v = c.in_ok-ending-in-SheetMember.ending in
    let P : Term → Type 0 = λ t. StandsAlone t c.args.place d e (term.Value v) in
    subst P (sym c.in-SheetMember.is) (alone_sheet c.in-SheetMember.member c.args.place d e v c.in_ok-ending-in-SheetMember.ensures)

pub returns-in_ok-ending-in-Function : goal.returns-in_ok-ending-in-Function
returns-in_ok-ending-in-Function c =
    let d = draft_view c.args.draft.now in
    let e = d in
    let v = c.in_ok-ending-in-Function.ending in
    let P : Term → Type 0 = λ t. StandsAlone t c.args.place d e (term.Value v) in
    subst P (sym c.in-Function.is) (alone_function c.in-Function.function c.args.place d v c.in_ok-ending-in-Function.ensures)

pub returns-in-Property : goal.returns-in-Property
returns-in-Property c =
    let d = draft_view c.args.draft.now in
    let P : Term → Type 0 = λ t. StandsAlone t c.args.place d d term.Nothing in
    subst P (sym c.in-Property.is) (alone_property c.in-Property.field-0 c.args.place d)
