use Rattle.std.proofs.Common.{ℕ, List, map, refl, subst, ◌∙◌}
use Rattle.std.specs.Prelude.{Bool, IfOk, Some, false, ◌+◌}
use Rattle.vba_values.specs.View.{view}
use Rattle.bound_project.specs.Expressions.{ByName}
use Rattle.bound_project.specs.Pieces.{by_name_in, flags_in, name_in, order_in}
use Rattle.vba_meaning.specs.Memory.{Slot}
use Rattle.vba_meaning.specs.LateBound.{late_let}
use Rattle.run_memory.specs.View.{memory_view, slot_view}
use Rattle.pcode.specs.Instructions.{LetLate}
use Rattle.pcode.specs.Machine.{act, looking, uses}
use Rattle.pcode.specs.View.{code_view, tables_of}
use Rattle.pcode_vm.specs.Does.{Does}
use Rattle.pcode_vm.specs.View.{backs_view, operands_view, state_view}
use Rattle.pcode_vm.proofs.Carried.{from_other}
use Rattle.pcode_vm.proofs.Coming.{flags_taken, sought_same, stuck_by}
use Rattle.pcode_vm.proofs.machine.Machine.let_late.Goals as goal

pub returns-in_default : goal.returns-in_default
returns-in_default c = λ more.
    let old = c.args.self.now in
    let t = tables_of c.args.code.now in
    let member = c.args.member in
    let took = rw c.in_default.is at c.in_ok-slots.ensures in
    stuck_by c.args.turns (act looking (code_view c.args.code.now) (Some (LetLate (name_in t member.name) (by_name_in t member.names) (flags_in t member))) c.args.pc (operands_view old.operands) (backs_view old.backs) (state_view old))
    more (flags_taken member.arguments (order_in t member.given) _ _ ∙ took _)

pub returns-in_default-pop_value : goal.returns-in_default-pop_value
returns-in_default-pop_value c = λ more.
    let old = c.args.self.now in
    let t = tables_of c.args.code.now in
    let member = c.args.member in
    let took = rw c.in-Some.is at c.in_ok-slots.ensures in
    stuck_by c.args.turns (act looking (code_view c.args.code.now) (Some (LetLate (name_in t member.name) (by_name_in t member.names) (flags_in t member))) c.args.pc (operands_view old.operands) (backs_view old.backs) (state_view old))
    more (flags_taken member.arguments (order_in t member.given) _ _ ∙ took _ ∙ c.in_default-pop_value.ensures _)

pub returns-in_default-pop_value-2 : goal.returns-in_default-pop_value-2
returns-in_default-pop_value-2 c = λ more.
    let old = c.args.self.now in
    let t = tables_of c.args.code.now in
    let member = c.args.member in
    let took = rw c.in-Some.is at c.in_ok-slots.ensures in
    stuck_by c.args.turns (act looking (code_view c.args.code.now) (Some (LetLate (name_in t member.name) (by_name_in t member.names) (flags_in t member))) c.args.pc (operands_view old.operands) (backs_view old.backs) (state_view old))
    more (flags_taken member.arguments (order_in t member.given) _ _ ∙ took _ ∙ c.in-Some-pop_value.ensures _ ∙ c.in_default-pop_value-2.ensures _)

pub returns-in_default-pop_value-3 : goal.returns-in_default-pop_value-3
returns-in_default-pop_value-3 c = λ more.
    let old = c.args.self.now in
    let t = tables_of c.args.code.now in
    let member = c.args.member in
    let took = rw c.in-Some.is at c.in_ok-slots.ensures in
    stuck_by c.args.turns (act looking (code_view c.args.code.now) (Some (LetLate (name_in t member.name) (by_name_in t member.names) (flags_in t member))) c.args.pc (operands_view old.operands) (backs_view old.backs) (state_view old))
    more (flags_taken member.arguments (order_in t member.given) _ _ ∙ took _ ∙ c.in-Some-pop_value.ensures _ ∙ c.in-Some-pop_value-2.ensures _ ∙ c.in_default-pop_value-3.ensures _)

pub returns : goal.returns
returns c =
    let old = c.args.self.now in
    let new = record old { operands = c.pop_value-3.new.self } in
    let code = code_view c.args.code.now in
    let t = tables_of c.args.code.now in
    let member = c.args.member in
    let took = rw c.in-Some.is at c.in_ok-slots.ensures in
    let Q = λ (xs : List Slot) (name : List ℕ) (by : ByName) (gs : List Bool). IfOk c.let_late_found.result (λ step. Does c.args.turns
    (uses code false (late_let code.declared name by gs (view c.in-Some-pop_value-2.base) (view c.in-Some-pop_value.begun) xs (view c.in-Some-pop_value-3.value) (memory_view old.memory)) (c.args.pc + 1)
    (operands_view new.operands) (backs_view old.backs) (state_view old)) new c.let_late_found.new.self step) in
    from_other c.args.turns _ _ old new c.let_late_found.new.self c.let_late_found.result
    (flags_taken member.arguments (order_in t member.given) _ _ ∙ took _ ∙ c.in-Some-pop_value.ensures _ ∙ c.in-Some-pop_value-2.ensures _ ∙ c.in-Some-pop_value-3.ensures _) refl
    (subst (λ (xs : List Slot). Q xs (name_in t member.name) (by_name_in t member.names) (flags_in t member)) c.in_ok-receive.ensures
    (sought_same (Q (map slot_view c.receive.new.arguments.items)) _ _ _ _ _ _ c.sought_in.ensures.name c.sought_in.ensures.names c.sought_in.ensures.given c.let_late_found.ensures))
