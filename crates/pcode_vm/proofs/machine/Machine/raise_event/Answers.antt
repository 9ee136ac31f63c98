use Rattle.std.proofs.Common.{List, ◌+◌, map, refl, sym, ap, ◌∙◌}
use Rattle.std.specs.Prelude.{reverse}
use Rattle.vba_values.specs.declared.object.ObjRef.{ObjRef}
use Rattle.vba_events.specs.declared.linked.Linked.{Linked}
use Rattle.vba_meaning.specs.Events.{sinks}
use Rattle.run_memory.specs.View.{memory_view, slot_view}
use Rattle.pcode.specs.Machine.{delivers}
use Rattle.pcode.specs.View.{code_view}
use Rattle.pcode_vm.specs.View.{backs_view, operands_view, state_view}
use Rattle.pcode_vm.proofs.Carried.{from_other}
use Rattle.pcode_vm.proofs.machine.Machine.raise_event.Goals as goal

pub returns : goal.returns
returns c =
    let took = rw c.in-Some.is at c.in_ok-slots.ensures in
    let old = c.args.self.now in
    let new = record old { operands = c.take.new.self } in
    let go = λ (ls : List Linked). delivers (code_view c.args.code.now) c.args.event (map slot_view c.in-Some.slots.items) ls (c.args.pc + 1) (operands_view new.operands) (backs_view old.backs) (state_view old) in
    from_other c.args.turns _ (go (reverse c.in_ok-links.links.items)) old new c.deliver.new.self c.deliver.result
    (took _ ∙ ap (λ (o : ObjRef). go (sinks o (memory_view old.memory))) (sym c.own_source-source.ensures) ∙ ap go (sym c.in_ok-links.ensures))
    refl c.deliver.ensures
