use Rattle.std.proofs.Common.{refl, ap}
use Rattle.vba_meaning.specs.References.{next_waiting, taken_off}
use Rattle.vba_meaning.specs.Meaning.{with_memory}
use Rattle.run_memory.specs.View.{memory_view}
use Rattle.pcode.specs.Machine.{lets_one_by, looking}
use Rattle.pcode.specs.View.{code_view}
use Rattle.pcode_vm.specs.View.{after_view, backs_view, state_view}
use Rattle.pcode_vm.proofs.Carried.{from_other}
use Rattle.pcode_run.proofs.Moves.{lets_same}
use Rattle.pcode_run.proofs.letting.let_one.Goals as goal

pub returns : goal.returns
returns c =
    let old = c.args.machine.now in
    let new = record old { memory = c.take_waiting-object.new.self } in
    let code = code_view c.args.code.now in
    let m = memory_view old.memory in
    let after = after_view c.args.after in
    from_other c.args.turns
    (lets_one_by looking code (next_waiting m.waiting) c.args.count after (backs_view old.backs) (with_memory (state_view old) (taken_off m)))
    (lets_one_by looking code c.take_waiting-object.result c.args.count after (backs_view old.backs) (state_view new))
    old new c.let_object.new.machine c.let_object.result
    (lets_same looking code (next_waiting m.waiting) c.take_waiting-object.result c.args.count after (backs_view old.backs) (with_memory (state_view old) (taken_off m)) (state_view new)
    c.take_waiting-object.ensures.next (ap (with_memory (state_view old)) c.take_waiting-object.ensures.taken)) refl c.let_object.ensures
