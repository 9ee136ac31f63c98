use Rattle.std.proofs.Common.{◌≡◌, rules, subst, sym}
use Rattle.std.specs.Prelude.{IfOk, Result, Err}
use Rattle.vba_base.specs.declared.fault.OrMemory.{OrMemory}
use Rattle.vba_base.specs.declared.fault.OrMemory.TheVariants.{Fault}
use Rattle.vba_values.specs.declared.fault.Bad.{Bad}
use Rattle.vba_values.specs.declared.fault.Bad.TheVariants.{Raise, Outside}
use Rattle.run_defaults.specs.declared.next.Next.{Next}
use Rattle.run_host.specs.Tells.{Tells}
use Rattle.run_host.specs.View.{told_view}
use Rattle.vba_meaning.specs.Memory.{error_here}
use Rattle.vba_meaning.specs.Meaning.{State}
use Rattle.vba_meaning.specs.Defaults.{most_calls}
use Rattle.run_memory.specs.View.{memory_view}
use Rattle.run_defaults.specs.View.{next_view}
use Rattle.pcode.specs.View.{code_view}
use Rattle.pcode.specs.Machine.{follows, raised}
use Rattle.pcode_vm.specs.Does.{Does}
use Rattle.pcode_vm.specs.View.{backs_view, operands_view, state_view}
use Rattle.pcode_vm.proofs.Coming.{same_state}
use Rattle.pcode_vm.proofs.Tellings.{told_on, told_raised, told_stopped}
use Rattle.pcode_vm.proofs.machine.Machine.use_came.Goals as goal

pub returns-in-Err-Fault-Raise : goal.returns-in-Err-Fault-Raise
returns-in-Err-Fault-Raise c = λ before effect begun h.
    let self = c.args.self.now in
    let m = memory_view self.memory in
    let bs = backs_view self.backs in
    let P : State → Type 0 = λ (s : State). IfOk c.raise_number.result (λ step. Does c.args.turns (raised (error_here c.in-Err-Fault-Raise.number m) bs s) self c.raise_number.new.self step) in
    let is : c.args.came ≡ Err (Fault (Raise c.in-Err-Fault-Raise.number)) = search rules in
    told_raised c.args.turns before self c.raise_number.new.self effect c.in-Err-Fault-Raise.number m bs (state_view before)
    (follows (code_view c.args.code.now) c.args.place most_calls c.args.next (operands_view self.operands) bs)
    c.raise_number.result (subst (λ (r : Result Next (OrMemory Bad)). Tells next_view r (told_view before.told) (told_view self.told) m effect) is h)
    (subst P (same_state (state_view self) (state_view before) m (sym begun)) c.raise_number.ensures)

pub returns-in-Err-Fault-Outside : goal.returns-in-Err-Fault-Outside
returns-in-Err-Fault-Outside c = λ before effect begun h.
    let self = c.args.self.now in
    let m = memory_view self.memory in
    let bs = backs_view self.backs in
    let is : c.args.came ≡ Err (Fault (Outside c.in-Err-Fault-Outside.kind)) = search rules in
    told_stopped c.args.turns before self effect _ m bs (state_view before)
    (follows (code_view c.args.code.now) c.args.place most_calls c.args.next (operands_view self.operands) bs) c.stopped.result
    (subst (λ (r : Result Next (OrMemory Bad)). Tells next_view r (told_view before.told) (told_view self.told) m effect) is h) c.stopped.ensures (same_state (state_view self) (state_view before) m (sym begun))

pub returns : goal.returns
returns c = λ before effect begun h.
    let self = c.args.self.now in
    let m = memory_view self.memory in
    let bs = backs_view self.backs in
    let next = next_view c.in-Ok.value in
    let go = follows (code_view c.args.code.now) c.args.place most_calls c.args.next (operands_view self.operands) bs in
    let P : State → Type 0 = λ (s : State). IfOk c.follow.result (λ step. Does c.args.turns (go next s) self c.follow.new.self step) in
    told_on c.args.turns before self c.follow.new.self effect next m bs (state_view before) go c.follow.result
    (rw c.in-Ok.is at h) (subst P (same_state (state_view self) (state_view before) m (sym begun)) c.follow.ensures)
