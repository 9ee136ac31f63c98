use Rattle.std.proofs.Common.{sym, subst}
use Rattle.std.specs.Prelude.{OnOk}
use Rattle.std.proofs.lemmas.Result.{on_ok_weaker}
use Rattle.bound_project.specs.DraftView.{draft_view}
use Rattle.bound_calls.specs.declared.term.Receiver.{Receiver}
use Rattle.bound_calls.specs.Taking.{PushesObject}
use Rattle.bound_calls.proofs.Lacking.{module_object, own_object, pushed_object}
use Rattle.bound_calls.proofs.bare.push_object.Goals as goal

pub returns-in-Module : goal.returns-in-Module
returns-in-Module c =
    let d = draft_view c.args.draft.now in
    let P : Receiver → Type 0 = λ r. PushesObject r d d in
    subst P (sym c.in-Module.is) (module_object d)

pub returns-in-Own : goal.returns-in-Own
returns-in-Own c =
    let d = draft_view c.args.draft.now in
    let e = draft_view c.push_node.new.draft in
    let P : Receiver → Type 0 = λ r. OnOk c.push_node.result (PushesObject r d e) in
    subst P (sym c.in-Own.is) (on_ok_weaker c.push_node.result (λ h. own_object c.in-Own.of c.nowhere.result d e c.nowhere.ensures h) c.push_node.ensures)

pub returns-in-Pushed : goal.returns-in-Pushed
returns-in-Pushed c =
    let d = draft_view c.args.draft.now in
    let P : Receiver → Type 0 = λ r. PushesObject r d d in
    subst P (sym c.in-Pushed.is) (pushed_object c.in-Pushed.field-0 d)
