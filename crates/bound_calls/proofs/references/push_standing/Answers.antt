use Rattle.std.proofs.Common.{Option, subst}
use Rattle.std.proofs.lemmas.Result.{IfOk-weaker}
use Rattle.bound_project.specs.DraftView.{draft_view}
use Rattle.bound_project.specs.View.{declarations_view}
use Rattle.bound_calls.specs.declared.term.Ending.{Ending}
use Rattle.bound_calls.specs.Taking.{ReadsValue}
use Rattle.bound_calls.proofs.Referring.{value_plainly}
use Rattle.bound_calls.proofs.references.push_standing.Goals as goal

pub returns : goal.returns
returns c =
    let d = draft_view c.args.draft.now in
    let m = draft_view c.read_value.new.draft in
    let P : Option Ending → Type 0 = λ o. ReadsValue c.args.term c.args.place d m o in
    IfOk-weaker c.push_plainly.result _ _
    (λ of h. value_plainly (declarations_view c.args.declared.now) c.args.term c.args.place d m (draft_view c.push_plainly.new.draft) c.in-Some.ending of (subst P c.in-Some.is c.in_ok-ending.ensures) h) c.push_plainly.ensures
