use Rattle.std.proofs.Common.{Option, sym, subst, ◌∙◌}
use Rattle.std.proofs.lemmas.Result.{IfOk-weaker}
use Rattle.bound_project.specs.DraftView.{draft_view}
use Rattle.bound_calls.specs.declared.term.Ending.{Ending}
use Rattle.bound_calls.specs.Taking.{ReadsValue}
use Rattle.bound_calls.proofs.Referring.{given_reference, given_value, refers_may}
use Rattle.bound_calls.proofs.references.read_given.Goals as goal

pub returns-then-refers : goal.returns-then-refers
returns-then-refers c =
    IfOk-weaker c.reference_ending.result _ _ (λ v h. given_reference c.args.term c.args.place (draft_view c.args.draft.now) (draft_view c.reference_ending.new.draft) v (sym c.refers.ensures ∙ c.if-refers.true) h) c.reference_ending.ensures

pub returns : goal.returns
returns c =
    let d = draft_view c.args.draft.now in
    let e = draft_view c.read_value.new.draft in
    let P : Option Ending → Type 0 = λ o. ReadsValue c.args.term c.args.place d e o in
    given_value c.args.term c.args.place d e c.in-Some.ending (subst P c.in-Some.is c.in_ok-ending.ensures)
