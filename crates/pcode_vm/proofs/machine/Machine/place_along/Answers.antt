use Rattle.std.proofs.Common.{map, refl, sym, ◌∙◌}
use Rattle.std.specs.Prelude.{◌+◌}
use Rattle.vba_meaning.specs.Effects.{slot_values}
use Rattle.run_memory.specs.View.{path_view, slot_view}
use Rattle.pcode.specs.View.{code_view}
use Rattle.pcode_vm.specs.View.{backs_view, operands_view, state_view}
use Rattle.pcode_vm.proofs.Carried.{from_other}
use Rattle.pcode_vm.proofs.Coming.{array_there, other_there}
use Rattle.pcode_vm.proofs.machine.Machine.place_along.Goals as goal

pub returns-then-is_array : goal.returns-then-is_array
returns-then-is_array c =
    let old = c.args.self.now in
    from_other c.args.turns _ _ old old c.push_element.new.self c.push_element.result
    (array_there (code_view c.args.code.now) (path_view c.args.path) (slot_values (map slot_view c.args.slots.items)) (c.args.pc + 1) (operands_view old.operands) (backs_view old.backs) (state_view old) (sym c.in_ok-is_array.ensures ∙ c.if-is_array.true)) refl (rw c.as_slice.ensures.value at c.push_element.ensures)

pub returns : goal.returns
returns c =
    let old = c.args.self.now in
    from_other c.args.turns _ _ old old c.push_item.new.self c.push_item.result
    (other_there (code_view c.args.code.now) (path_view c.args.path) (slot_values (map slot_view c.args.slots.items)) (c.args.pc + 1) (operands_view old.operands) (backs_view old.backs) (state_view old) (sym c.in_ok-is_array.ensures ∙ c.if-is_array.false)) refl c.push_item.ensures
