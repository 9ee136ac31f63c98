use Rattle.std.proofs.Common.{sym, subst, Option, Some}
use Rattle.bound_project.specs.DraftView.{draft_view}
use Rattle.bound_calls.specs.declared.term.Ending.{Ending}
use Rattle.bound_calls.specs.Taking.{Pushes}
use Rattle.bound_calls.proofs.Taking.{pushes_some}
use Rattle.bound_calls.proofs.take.push_ending.Goals as goal

pub returns : goal.returns
returns c =
    let d = draft_view c.args.draft.now in
    let e = draft_view c.push.new.self in
    let P : Option Ending → Type 0 = λ x. Pushes x c.args.place d e (Some c.in-Some.ending.of) in
    subst P (sym c.in-Some.is) (pushes_some c.in-Some.ending c.args.place d e c.in_ok-push.ensures)
