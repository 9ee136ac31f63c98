use Rattle.std.proofs.Common.{◌≡◌, ◌∷◌, refl, ap, ◌∙◌, map}
use Rattle.vba_values.specs.declared.value.Value.TheVariants as value
use Rattle.vba_values.specs.View.{view}
use Rattle.vba_values.specs.Val.{object}
use Rattle.vba_values.specs.declared.object.ObjRef.TheVariants.{Heap}
use Rattle.vba_meaning.specs.Memory as plain
use Rattle.run_memory.specs.View.{slot_view}
use Rattle.pcode.specs.Machine.{calls, initializes}
use Rattle.pcode.specs.View.{code_view}
use Rattle.pcode_vm.specs.View.{operands_view, backs_view, state_view}
use Rattle.pcode_vm.proofs.Carried.{from_other, view_object}
use Rattle.pcode_vm.proofs.Making.{initialized_by}
use Rattle.pcode_vm.proofs.machine.Machine.initialize.Goals as goal

pub returns : goal.returns
returns c =
    let old = c.args.self.now in
    let new = record old { operands = c.push_value.new.self } in
    let code = code_view c.args.code.now in
    let v = object (Heap (record { 0 = c.args.number })) in
    let me = view (value.Object (Heap (record { 0 = c.args.number }))) in
    let same : me ≡ v = view_object (Heap (record { 0 = c.args.number })) in
    let xs = map slot_view c.new-none.result.items in
    from_other c.args.turns
    (initializes code c.args.procedure v c.args.next (operands_view old.operands) (backs_view old.backs) (state_view old))
    (calls code c.in-Some.procedure me xs c.args.next (operands_view new.operands) (backs_view old.backs) (state_view old))
    old new c.call_with.new.self c.call_with.result
    (initialized_by code c.args.procedure c.in-Some.procedure c.args.next v me xs (operands_view old.operands) (operands_view new.operands) (backs_view old.backs) (backs_view old.backs) (state_view old) (state_view old)
    c.in-Some.is same (ap (map slot_view) c.new-none.ensures.items) (c.in_ok-push_value.ensures ∙ ap (λ u. plain.value u ∷ operands_view old.operands) same) refl refl)
    refl c.call_with.ensures
