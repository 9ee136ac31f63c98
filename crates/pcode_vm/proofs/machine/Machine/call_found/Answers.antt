use Rattle.std.proofs.Common.{List, map, refl, sym, ap, ◌∙◌}
use Rattle.std.specs.Prelude.{◌+◌}
use Rattle.vba_values.specs.View.{view}
use Rattle.vba_meaning.specs.Effects.{slot_values}
use Rattle.run_memory.specs.declared.frame.Slot.{Slot}
use Rattle.run_memory.specs.View.{slot_view}
use Rattle.run_late.specs.View.{given_view, names_view}
use Rattle.pcode.specs.View.{code_view}
use Rattle.pcode_vm.specs.View.{backs_view, operands_view, state_view}
use Rattle.pcode_vm.proofs.Carried.{from_other}
use Rattle.pcode_vm.proofs.Coming.{host_there, instance_there}
use Rattle.pcode_vm.proofs.machine.Machine.call_found.Goals as goal

pub returns-then-is_instance : goal.returns-then-is_instance
returns-then-is_instance c =
    let old = c.args.self.now in
    from_other c.args.turns _ _ old old c.call_instance.new.self c.call_instance.result
    (instance_there (code_view c.args.code.now) c.args.sought.name.now (names_view c.args.sought) (given_view c.args.sought) (view c.args.base.now) (view c.args.begun.now) (map slot_view c.args.slots.items) (c.args.pc + 1) (operands_view old.operands) (backs_view old.backs) (state_view old) (sym c.is_instance.ensures ∙ c.if-is_instance.true)) refl c.call_instance.ensures

pub returns : goal.returns
returns c =
    let old = c.args.self.now in
    from_other c.args.turns _ _ old old c.use_member.new.self c.use_member.result
    (host_there (code_view c.args.code.now) c.args.sought.name.now (names_view c.args.sought) (given_view c.args.sought) (view c.args.base.now) (view c.args.begun.now) (map slot_view c.args.slots.items) (c.args.pc + 1) (operands_view old.operands) (backs_view old.backs) (state_view old) (sym c.is_instance.ensures ∙ c.if-is_instance.false)) refl (rw (ap (λ (l : List Slot). slot_values (map slot_view l)) c.as_slice-slots.ensures.value ∙ c.in_ok-slots.ensures) at c.use_member.ensures)
