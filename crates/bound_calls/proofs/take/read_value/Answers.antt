use Rattle.std.proofs.Common.{Option, sym, subst}
use Rattle.std.specs.Prelude.{IfOk}
use Rattle.std.proofs.lemmas.Result.{IfOk-weaker}
use Rattle.bound_project.specs.DraftView.{draft_view}
use Rattle.bound_calls.specs.declared.term.Ending.{Ending}
use Rattle.bound_calls.specs.declared.term.Term.{Term}
use Rattle.bound_calls.specs.declared.term.Term.TheVariants as term
use Rattle.bound_calls.specs.Standing.{TermNamed}
use Rattle.bound_calls.specs.Taking.{ReadsValue}
use Rattle.bound_calls.proofs.Taking.{reads_place, reads_value}
use Rattle.bound_calls.proofs.take.read_value.Goals as goal

pub returns-in-Place : goal.returns-in-Place
returns-in-Place c =
    let p = c.in-Place in
    let d = draft_view c.args.draft.now in
    let e = draft_view c.load.new.draft in
    let P : Term → Type 0 = λ x. IfOk c.load.result (λ ending. ReadsValue x c.args.place d e ending) in
    subst P (sym p.is) (IfOk-weaker c.load.result _ _ (λ ending h. reads_place p.kind p.of p.bounds p.lends p.makes c.args.place d e ending h) c.load.ensures)

pub returns-in-Value : goal.returns-in-Value
returns-in-Value c =
    let d = draft_view c.args.draft.now in
    let v = c.in-Value.ending in
    let N : Term → Type 0 = λ x. TermNamed d.tables x in
    let A : Option Ending → Type 0 = λ o. ReadsValue (term.Value v) c.args.place d d o in
    let P : Term → Type 0 = λ x. ReadsValue x c.args.place d d c.no_object.result in
    subst P (sym c.in-Value.is) (subst A (sym c.no_object.ensures) (reads_value v c.args.place d (subst N c.in-Value.is c.requires)))
