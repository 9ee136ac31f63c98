use Rattle.std.proofs.Common.{◌≡◌, true, Some, length, refl, sym, ap, ◌∙◌, map}
use Rattle.std.specs.Prelude.{false, nat_lt, ◌∷◌}
use Rattle.vba_values.specs.View.{view}
use Rattle.vba_values.specs.declared.object.ObjRef.TheVariants.{Heap}
use Rattle.vba_values.specs.declared.value.Value.TheVariants as value
use Rattle.bound_project.specs.Project.{class_at}
use Rattle.bound_project.specs.View.{declarations_view}
use Rattle.vba_meaning.specs.Memory.{Faulted}
use Rattle.run_memory.specs.View.{error_view, memory_view, slot_view}
use Rattle.pcode.specs.Machine.{EndOf, Ends, terminates_by, enters, looking, raises_then}
use Rattle.pcode.specs.View.{code_view}
use Rattle.pcode_vm.specs.View.{after_view, backs_view, state_view}
use Rattle.pcode_vm.proofs.Carried.{from_other, view_object}
use Rattle.pcode_run.proofs.Moves.{terminate_entered, terminate_faults}
use Rattle.pcode_run.proofs.letting.terminate.Goals as goal

pub returns : goal.returns
returns c =
    let old = c.args.machine.now in
    let code = code_view c.args.code.now in
    let found : (class_at (declarations_view c.args.code.now.declared) c.args.class).terminate ≡ Some c.in-Some.procedure = sym c.terminate_of.ensures ∙ c.in-Some.is in
    let room : nat_lt (length (memory_view old.memory).frames) 2000 ≡ true = sym c.has_room.ensures ∙ c.if-not-has_room.false in
    let xs = map slot_view c.new-none.result.items in
    let after = after_view c.args.after in
    let reference = Heap (record { 0 = c.args.object }) in
    let back = EndOf c.args.object c.args.count after in
    from_other c.args.turns
    (terminates_by looking code (class_at (declarations_view c.args.code.now.declared) c.args.class).terminate c.args.object c.args.count after (backs_view old.backs) (state_view old))
    (enters code false c.in-Some.procedure (view (value.Object reference)) xs (back ∷ backs_view old.backs) (state_view old))
    old old c.enter_before.new.self c.enter_before.result
    (terminate_entered code (class_at (declarations_view c.args.code.now.declared) c.args.class).terminate c.in-Some.procedure c.args.object c.args.count after (view (value.Object reference)) xs back (backs_view old.backs) (state_view old)
    found room (view_object reference) (ap (map slot_view) c.new-none.ensures.items) refl)
    refl c.enter_before.ensures

pub returns-then-not-has_room : goal.returns-then-not-has_room
returns-then-not-has_room c =
    let old = c.args.machine.now in
    let code = code_view c.args.code.now in
    let found : (class_at (declarations_view c.args.code.now.declared) c.args.class).terminate ≡ Some c.in-Some.procedure = sym c.terminate_of.ensures ∙ c.in-Some.is in
    let room : nat_lt (length (memory_view old.memory).frames) 2000 ≡ false = sym c.has_room.ensures ∙ c.if-not-has_room.true in
    let after = after_view c.args.after in
    let e = error_view c.error_here-error.result in
    from_other c.args.turns
    (terminates_by looking code (class_at (declarations_view c.args.code.now.declared) c.args.class).terminate c.args.object c.args.count after (backs_view old.backs) (state_view old))
    (raises_then e (state_view old) (λ s. Ends (Faulted e) s))
    old old c.fault.new.machine c.fault.result
    (terminate_faults code (class_at (declarations_view c.args.code.now.declared) c.args.class).terminate c.in-Some.procedure c.args.object c.args.count after (backs_view old.backs) (state_view old) e
    found room c.error_here-error.ensures)
    refl c.fault.ensures
