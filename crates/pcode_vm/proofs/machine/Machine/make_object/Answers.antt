use Rattle.vba_values.specs.Val.{Val, object}
use Rattle.vba_values.specs.declared.object.ObjRef.TheVariants.{Heap}
use Rattle.bound_project.specs.Project.{class_at}
use Rattle.vba_meaning.specs.Meaning.{State}
use Rattle.vba_meaning.specs.Objects.{made}
use Rattle.run_host.specs.View.{told_view}
use Rattle.run_memory.specs.View.{memory_view}
use Rattle.pcode.specs.Machine.{done_then, initializes}
use Rattle.pcode.specs.View.{code_view}
use Rattle.pcode_vm.specs.View.{operands_view, backs_view, state_view}
use Rattle.pcode_vm.proofs.Carried.{carried}
use Rattle.pcode_vm.proofs.Making.{made_then}
use Rattle.pcode_vm.proofs.machine.Machine.make_object.Goals as goal

pub returns : goal.returns
returns c =
    let old = c.args.self.now in
    let mid = record old { memory = c.made.new.memory; told = c.tell_made.new.told } in
    let code = code_view c.args.code.now in
    let made_value = object (Heap (record { 0 = c.in_ok-number.number })) in
    let first = (class_at code.declared c.args.class).initialize in
    let go = λ (v : Val) (s : State). initializes code first v c.args.next (operands_view old.operands) (backs_view old.backs) s in
    carried c.args.turns
    (done_then (made code.declared c.args.class (memory_view old.memory)) (backs_view old.backs) (state_view old) go)
    (initializes code first made_value c.args.next (operands_view old.operands) (backs_view old.backs) (state_view mid))
    old mid c.initialize.new.self c.initialize.result
    (λ more. made_then c.args.turns c.args.class c.in_ok-number.number (made code.declared c.args.class (memory_view old.memory)) made_value (memory_view mid.memory) (backs_view old.backs) (state_view old) go (told_view old.told) (told_view mid.told) more
    c.in_ok-number.ensures c.in_ok-tell_made.ensures)
    (rw c.initialize_of-procedure.ensures at c.initialize.ensures)
