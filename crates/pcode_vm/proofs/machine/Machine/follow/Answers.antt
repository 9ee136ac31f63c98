use Rattle.std.proofs.Common.{List, refl, sym, ap, ◌∙◌}
use Rattle.vba_meaning.specs.Memory.{Slot}
use Rattle.run_memory.specs.View.{memory_view}
use Rattle.run_defaults.specs.View.{next_view}
use Rattle.run_defaults.specs.declared.next.Next.{Next}
use Rattle.pcode.specs.Machine.{follows, tells_change}
use Rattle.pcode.specs.View.{code_view}
use Rattle.pcode_vm.specs.View.{backs_view, operands_view, state_view}
use Rattle.pcode_vm.proofs.Carried.{from_other}
use Rattle.pcode_vm.proofs.machine.Machine.follow.Goals as goal

pub returns-in_ok-push_left-in-Gives : goal.returns-in_ok-push_left-in-Gives
returns-in_ok-push_left-in-Gives c =
    let old = c.args.self.now in
    let mid = record old { operands = c.push_left.new.self } in
    let go = λ (n : Next). follows (code_view c.args.code.now) c.args.place c.args.left c.args.next (operands_view old.operands) (backs_view old.backs) (next_view n) (state_view old) in
    let told = λ (st : List Slot). tells_change (code_view c.args.code.now) (memory_view old.memory).changed c.args.next st (backs_view old.backs) (state_view old) in
    from_other c.args.turns (go c.args.came) (told (operands_view mid.operands)) old mid c.tell_change.new.self c.tell_change.result
    (ap go c.in-Gives.is ∙ ap told (sym c.in_ok-push_left-in-Gives.ensures)) refl c.tell_change.ensures
