use Rattle.std.proofs.Common.{List, map, refl, sym, ap, ◌∙◌}
use Rattle.std.specs.Prelude.{None, Some, reverse}
use Rattle.vba_values.specs.declared.object.ObjRef.{ObjRef}
use Rattle.vba_events.specs.declared.linked.Linked.{Linked}
use Rattle.vba_meaning.specs.Memory.{Slot}
use Rattle.vba_meaning.specs.Events.{change, sinks, target_of}
use Rattle.run_memory.specs.View.{memory_view, slot_view}
use Rattle.pcode.specs.Machine.{delivers, tells_change}
use Rattle.pcode.specs.View.{code_view}
use Rattle.pcode_vm.specs.View.{backs_view, operands_view, state_view}
use Rattle.pcode_vm.proofs.Carried.{from_other}
use Rattle.pcode_vm.proofs.machine.Machine.change_told.Goals as goal

pub returns : goal.returns
returns c =
    let old = c.args.self.now in
    let mid = record old { memory = record old.memory { changed = None } } in
    let code = code_view c.args.code.now in
    let xs = map slot_view c.in_ok-slots.slots.items in
    let ls = reverse c.in_ok-links.links.items in
    let go = λ (ys : List Slot) (ks : List Linked). delivers code change ys ks c.args.next (operands_view old.operands) (backs_view old.backs) (state_view mid) in
    from_other c.args.turns (tells_change code (Some c.args.area) c.args.next (operands_view old.operands) (backs_view old.backs) (state_view old)) (go xs ls) old mid c.deliver.new.self c.deliver.result
    (ap (λ (o : ObjRef). go (target_of c.args.area) (sinks o (memory_view mid.memory))) (sym c.sheet_of.ensures) ∙ ap (λ (ks : List Linked). go (target_of c.args.area) ks) (sym c.in_ok-links.ensures)
    ∙ ap (λ (ys : List Slot). go ys ls) (sym c.in_ok-slots.ensures))
    refl c.deliver.ensures
