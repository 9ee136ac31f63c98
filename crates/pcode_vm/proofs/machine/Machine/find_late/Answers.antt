use Rattle.std.proofs.Common.{ℕ, List, refl}
use Rattle.std.specs.Prelude.{Bool, IfOk, false, ◌+◌, ◌∷◌}
use Rattle.vba_values.specs.View.{view}
use Rattle.bound_project.specs.Expressions.{ByName}
use Rattle.vba_meaning.specs.Memory.{value}
use Rattle.vba_meaning.specs.LateBound.{late_there}
use Rattle.run_memory.specs.View.{memory_view}
use Rattle.pcode.specs.Machine.{uses}
use Rattle.pcode.specs.View.{code_view, use_view}
use Rattle.pcode_vm.specs.Does.{Does}
use Rattle.pcode_vm.specs.View.{backs_view, operands_view, state_view}
use Rattle.pcode_vm.proofs.Carried.{from_other}
use Rattle.pcode_vm.proofs.Coming.{sought_same}
use Rattle.pcode_vm.proofs.machine.Machine.find_late.Goals as goal

pub returns : goal.returns
returns c =
    let old = c.args.self.now in
    let new = record old { operands = c.pop_value.new.self } in
    let code = code_view c.args.code.now in
    let v = view c.in-Some.base in
    let P = λ (name : List ℕ) (by : ByName) (gs : List Bool). IfOk c.begin_late.result (λ step. Does c.args.turns (uses code false (late_there code.declared (use_view c.args.aim) name by gs v (memory_view old.memory)) (c.args.pc + 1)
    (value v ∷ operands_view new.operands) (backs_view old.backs) (state_view old)) new c.begin_late.new.self step) in
    from_other c.args.turns _ _ old new c.begin_late.new.self c.begin_late.result (c.in-Some.ensures _) refl
    (sought_same P _ _ _ _ _ _ c.sought_in.ensures.name c.sought_in.ensures.names c.sought_in.ensures.given c.begin_late.ensures)
