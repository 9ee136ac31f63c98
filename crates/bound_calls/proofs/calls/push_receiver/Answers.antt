use Rattle.std.proofs.Common.{sym, subst}
use Rattle.std.specs.Prelude.{OnOk}
use Rattle.bound_project.specs.DraftView.{draft_view}
use Rattle.bound_calls.specs.declared.term.Receiver.{Receiver}
use Rattle.bound_calls.specs.Calls.{PushesReceiver}
use Rattle.bound_calls.proofs.CallSteps.{receives_module}
use Rattle.bound_calls.proofs.calls.push_receiver.Goals as goal

pub returns-in-Module : goal.returns-in-Module
returns-in-Module c =
    let d = draft_view c.args.draft.now in
    let P : Receiver → Type 0 = λ r. PushesReceiver r d d in
    subst P (sym c.in-Module.is) (receives_module d)

pub returns-in-Own : goal.returns-in-Own
returns-in-Own c =
    let P : Receiver → Type 0 = λ r. OnOk c.push_own.result (PushesReceiver r (draft_view c.args.draft.now) (draft_view c.push_own.new.draft)) in
    subst P (sym c.in-Own.is) c.push_own.ensures

pub returns-in-Pushed : goal.returns-in-Pushed
returns-in-Pushed c =
    let P : Receiver → Type 0 = λ r. OnOk c.push_there.result (PushesReceiver r (draft_view c.args.draft.now) (draft_view c.push_there.new.draft)) in
    subst P (sym c.in-Pushed.is) c.push_there.ensures
