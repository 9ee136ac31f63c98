use Rattle.std.proofs.Common.{◌∷◌, map, refl, reverse, ap, ◌∙◌}
use Rattle.bound_project.specs.Project.{first_values}
use Rattle.vba_meaning.specs.Memory.{frame_left, result}
use Rattle.vba_meaning.specs.References.{hold}
use Rattle.vba_meaning.specs.Meaning.{with_memory}
use Rattle.vba_values.specs.View.{view}
use Rattle.run_memory.specs.View.{memory_view, slot_view}
use Rattle.pcode.specs.Machine.{delivers, returned_by, resumes, closing, looking}
use Rattle.pcode.specs.View.{code_view}
use Rattle.run_defaults.specs.View.{tasks_view}
use Rattle.pcode_vm.specs.View.{back_view, backs_view, operands_view, state_view}
use Rattle.pcode_vm.proofs.Carried.{from_other}
use Rattle.pcode_run.proofs.Moves.{returned_delivering, returned_last, returned_within}
use Rattle.pcode_run.proofs.frames.returns.Goals as goal

pub returns-in-None : goal.returns-in-None
returns-in-None c =
    let old = c.args.machine.now in
    let new = record old { memory = c.result_taken-value.new.self; backs = c.pop.new.self } in
    let code = code_view c.args.code.now in
    let m = memory_view old.memory in
    let s = with_memory (state_view old) (frame_left m) in
    from_other c.args.turns (returned_by looking code (backs_view old.backs) (result m) s) (closing (first_values code.declared code.declared.shared) 0 (state_view new))
    old new c.close_all.new.machine c.close_all.result
    (returned_last code (backs_view old.backs) (result m) s (state_view new) c.in-None.ensures.0 (ap (with_memory (state_view old)) c.result_taken-value.ensures.left))
    refl c.close_all.ensures

pub returns-in_ok-hold-in-Some-Within : goal.returns-in_ok-hold-in-Some-Within
returns-in_ok-hold-in-Some-Within c =
    let old = c.args.machine.now in
    let code = code_view c.args.code.now in
    let m = memory_view old.memory in
    let v = result m in
    let s = with_memory (state_view old) (frame_left m) in
    let back = c.in-Some-Within in
    let new = record old { memory = c.hold-in-Some-Within.new.self; backs = c.pop.new.self; operands = back.operands } in
    from_other c.args.turns (returned_by looking code (backs_view old.backs) v s)
    (resumes code back.place back.left (tasks_view back.tasks.items) back.pc (operands_view back.operands) (backs_view new.backs) (view c.result_taken-value.result) (state_view new))
    old new c.resume.new.self c.resume.result
    (returned_within code (backs_view old.backs) back.place back.left (tasks_view back.tasks.items) back.pc (operands_view back.operands) (backs_view new.backs) v (view c.result_taken-value.result) s (state_view new)
    (back.ensures ∙ ap (λ b. back_view b ∷ backs_view c.pop.new.self) back.field-0-is) c.result_taken-value.ensures.value (ap (with_memory (state_view old)) (c.in_ok-hold-in-Some-Within.ensures ∙ ap (hold (view c.result_taken-value.result)) c.result_taken-value.ensures.left)))
    refl c.resume.ensures

pub returns-in_ok-hold-in-Some-Delivering : goal.returns-in_ok-hold-in-Some-Delivering
returns-in_ok-hold-in-Some-Delivering c =
    let old = c.args.machine.now in
    let code = code_view c.args.code.now in
    let m = memory_view old.memory in
    let v = result m in
    let s = with_memory (state_view old) (frame_left m) in
    let back = c.in-Some-Delivering in
    let xs = map slot_view back.slots.items in
    let ls = reverse back.links.items in
    let new = record old { memory = c.hold-in-Some-Delivering.new.self; backs = c.pop.new.self; operands = back.operands } in
    from_other c.args.turns (returned_by looking code (backs_view old.backs) v s)
    (delivers code back.event xs ls back.pc (operands_view back.operands) (backs_view new.backs) (state_view new))
    old new c.deliver.new.self c.deliver.result
    (returned_delivering code (backs_view old.backs) back.event xs ls back.pc (operands_view back.operands) (backs_view new.backs) v (view c.result_taken-value.result) s (state_view new)
    (back.ensures ∙ ap (λ b. back_view b ∷ backs_view c.pop.new.self) back.field-0-is) c.result_taken-value.ensures.value (ap (with_memory (state_view old)) (c.in_ok-hold-in-Some-Delivering.ensures ∙ ap (hold (view c.result_taken-value.result)) c.result_taken-value.ensures.left)))
    refl c.deliver.ensures
