use Rattle.std.proofs.Common.{◌≡◌, true, ap, sym, ◌∙◌}
use Rattle.std.specs.Prelude.{nat_lt, ◌+◌}
use Rattle.std.proofs.lemmas.Bool.{lt-ltb}
use Rattle.vba_meaning.specs.Memory.{object_at}
use Rattle.vba_meaning.specs.References.{is_last}
use Rattle.vba_meaning.specs.Meaning.{with_memory, turned}
use Rattle.run_memory.specs.View.{memory_view}
use Rattle.pcode.specs.Machine.{lets_one_by, ends_by, looking, tells}
use Rattle.pcode.specs.View.{code_view}
use Rattle.pcode_vm.specs.View.{after_view, backs_view, state_view}
use Rattle.run_host.specs.View.{told_view}
use Rattle.pcode_vm.proofs.Carried.{carried}
use Rattle.pcode_run.proofs.Moves.{last_let}
use Rattle.pcode_run.proofs.letting.let_object.Goals as goal

pub returns : goal.returns
returns c =
    let old = c.args.machine.now in
    let new = record old { memory = c.as_told.new.self; begun = old.begun + 1 } in
    let code = code_view c.args.code.now in
    let m = memory_view old.memory in
    let o = c.args.object in
    let after = after_view c.args.after in
    let last : is_last m o ≡ true = sym c.is_last-last.ensures ∙ c.if-not-last.false in
    let room : nat_lt old.begun c.args.turns ≡ true = lt-ltb old.begun c.args.turns c.if-machine-turns.false in
    carried c.args.turns
    (lets_one_by looking code o c.args.count after (backs_view old.backs) (state_view old))
    (ends_by looking code (object_at m o) o c.args.count after (backs_view old.backs) (state_view new))
    old new c.end_object.new.machine c.end_object.result
    (λ more. ap (λ f. tells (told_view old.told) f) (last_let code c.args.turns o c.args.count after (backs_view old.backs) (state_view old) (state_view new) more last room
    (ap (with_memory (turned (state_view old))) c.as_told.ensures)))
    (c.end_object.ensures (object_at m o) (sym c.is_told-told.ensures) (sym c.class_of-class.ensures))
