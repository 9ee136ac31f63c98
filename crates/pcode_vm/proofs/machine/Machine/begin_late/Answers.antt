use Rattle.std.proofs.Common.{List, refl, subst}
use Rattle.std.specs.Prelude.{IfOk, false, ◌+◌}
use Rattle.vba_values.specs.View.{view}
use Rattle.vba_meaning.specs.Memory.{Slot}
use Rattle.vba_meaning.specs.LateBound.{late_there}
use Rattle.run_memory.specs.View.{memory_view}
use Rattle.run_late.specs.View.{given_view, names_view}
use Rattle.pcode.specs.Machine.{uses}
use Rattle.pcode.specs.View.{code_view, use_view}
use Rattle.pcode_vm.specs.Does.{Does}
use Rattle.pcode_vm.specs.View.{backs_view, state_view}
use Rattle.pcode_vm.proofs.machine.Machine.begin_late.Goals as goal

pub returns : goal.returns
returns c =
    let old = c.args.self.now in
    let effect = late_there (code_view c.args.code.now).declared (use_view c.args.aim) c.args.sought.name.now (names_view c.args.sought) (given_view c.args.sought) (view c.args.base) (memory_view c.args.self.now.memory) in
    let P : List Slot → Type 0 = λ (st : List Slot). IfOk c.use_came.result (λ step. Does c.args.turns (uses (code_view c.args.code.now) false effect (c.args.pc + 1) st (backs_view old.backs) (state_view old)) old c.use_came.new.self step) in
    subst P c.in_ok-push_value.ensures (c.use_came.ensures old effect refl c.late_there-came.ensures)
