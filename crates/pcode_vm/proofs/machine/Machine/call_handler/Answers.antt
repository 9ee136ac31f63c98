use Rattle.std.proofs.Common.{◌≡◌, true, List, map, refl, sym, ap, ◌∙◌}
use Rattle.std.specs.Prelude.{reverse, ◌∷◌}
use Rattle.vba_values.specs.View.{view}
use Rattle.vba_values.specs.declared.object.ObjRef.TheVariants.{Heap}
use Rattle.vba_values.specs.declared.value.Value.TheVariants as value
use Rattle.vba_meaning.specs.Memory.{error_here}
use Rattle.vba_meaning.specs.Meaning.{with_memory}
use Rattle.run_memory.specs.declared.frame.Slot.{Slot}
use Rattle.run_memory.specs.View.{memory_view, slot_view}
use Rattle.pcode.specs.Machine.{enters, raised}
use Rattle.pcode.specs.View.{code_view}
use Rattle.pcode_vm.specs.Events.{handles}
use Rattle.pcode_vm.specs.View.{back_view, backs_view, operands_view, state_view}
use Rattle.pcode_vm.proofs.Carried.{from_other, view_object}
use Rattle.pcode_vm.proofs.Delivering.{handles_entered, handles_full}
use Rattle.pcode_vm.proofs.machine.Machine.call_handler.Goals as goal

pub returns-then-not-has_room : goal.returns-then-not-has_room
returns-then-not-has_room c =
    let old = c.args.self.now in
    let mid = record old { memory = c.lent_again.new.self } in
    let xs = map slot_view c.args.slots.items in
    from_other c.args.turns
    (handles (code_view c.args.code.now) c.args.event xs c.args.sink (reverse c.args.links.items) c.args.procedure c.args.next (operands_view old.operands) (backs_view old.backs) (state_view old))
    (raised (error_here 28 (memory_view mid.memory)) (backs_view old.backs) (state_view mid))
    old mid c.raise_number.new.self c.raise_number.result
    (handles_full (code_view c.args.code.now) c.args.event xs c.args.sink (reverse c.args.links.items) c.args.procedure c.args.next (operands_view old.operands) (backs_view old.backs) (state_view old) (state_view mid)
    (ap (with_memory (state_view old)) (rw c.as_slice.ensures.value at c.in_ok-lent_again.ensures)) (sym c.has_room.ensures ∙ c.if-not-has_room.true)) refl c.raise_number.ensures

pub returns : goal.returns
returns c =
    let old = c.args.self.now in
    let mid = record old { memory = c.lent_again.new.self } in
    let new = c.wait_delivering-back.new.self in
    let xs = map slot_view c.args.slots.items in
    let lent = rw c.as_slice.ensures.value at c.in_ok-lent_again.ensures in
    let ys = map slot_view c.in_ok-arguments.arguments.items in
    let copied : ys ≡ xs = c.in_ok-arguments.ensures ∙ ap (λ (l : List Slot). map slot_view l) c.as_slice-2.ensures.value in
    let me = view (value.Object (Heap c.args.sink)) in
    let back = back_view c.wait_delivering-back.result in
    from_other c.args.turns
    (handles (code_view c.args.code.now) c.args.event xs c.args.sink (reverse c.args.links.items) c.args.procedure c.args.next (operands_view old.operands) (backs_view old.backs) (state_view old))
    (enters (code_view c.args.code.now) true c.args.procedure me ys (back ∷ backs_view new.backs) (state_view new))
    old new c.enter_before.new.self c.enter_before.result
    (handles_entered (code_view c.args.code.now) c.args.event xs c.args.sink (reverse c.args.links.items) c.args.procedure c.args.next (operands_view old.operands) (backs_view old.backs) (state_view old) (state_view mid)
    back (backs_view new.backs) me ys (state_view new)
    (ap (with_memory (state_view old)) lent) (sym c.has_room.ensures ∙ c.if-not-has_room.false) (view_object (Heap c.args.sink)) copied
    c.wait_delivering-back.ensures.back c.wait_delivering-back.ensures.backs c.wait_delivering-back.ensures.state)
    (sym c.wait_delivering-back.ensures.told) c.enter_before.ensures
