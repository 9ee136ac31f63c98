use Rattle.std.proofs.Common.{map, refl, sym, ap, ◌∙◌}
use Rattle.std.specs.Prelude.{reverse}
use Rattle.run_memory.specs.View.{memory_view, slot_view}
use Rattle.run_events.specs.Sought.{found_with}
use Rattle.pcode.specs.Machine.{delivers}
use Rattle.pcode.specs.View.{code_view}
use Rattle.pcode_vm.specs.Events.{handles}
use Rattle.pcode_vm.specs.View.{backs_view, operands_view, state_view}
use Rattle.pcode_vm.proofs.Carried.{from_other}
use Rattle.pcode_vm.proofs.Delivering.{delivered, handled}
use Rattle.pcode_vm.proofs.machine.Machine.deliver.Goals as goal

pub returns-in-Some : goal.returns-in-Some
returns-in-Some c =
    let old = c.args.self.now in
    let code = code_view c.args.code.now in
    let xs = map slot_view c.args.slots.items in
    let ks = reverse c.next_due.new.links.items in
    from_other c.args.turns
    (delivers code c.args.event xs (reverse c.args.links.items) c.args.next (operands_view old.operands) (backs_view old.backs) (state_view old))
    (handles code c.args.event xs c.in-Some.sink ks c.in-Some.procedure c.args.next (operands_view old.operands) (backs_view old.backs) (state_view old))
    old old c.call_handler.new.self c.call_handler.result
    (handled code c.args.event xs c.args.next (operands_view old.operands) (backs_view old.backs) (state_view old) (reverse c.args.links.items) ks c.in-Some.sink c.in-Some.procedure
    (sym c.next_due.ensures ∙ ap (λ f. found_with f ks) c.in-Some.is))
    refl c.call_handler.ensures

pub returns-in-None : goal.returns-in-None
returns-in-None c = λ more.
    let old = c.args.self.now in
    let code = code_view c.args.code.now in
    let xs = map slot_view c.args.slots.items in
    let m = memory_view old.memory in
    rw (
      delivered code c.args.event xs c.args.next (operands_view old.operands) (backs_view old.backs) (state_view old) (reverse c.args.links.items)
          (sym c.next_due.ensures ∙ ap (λ f. found_with f (reverse c.next_due.new.links.items)) c.in-None.is),
      c.go_on.ensures,
      c.raise_over.ensures,
      c.as_slice.ensures.value,
    ) refl
