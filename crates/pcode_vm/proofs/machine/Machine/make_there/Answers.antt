use Rattle.std.proofs.Common.{◌+◌, ◌∷◌, refl, sym, ap, ◌∙◌}
use Rattle.vba_meaning.specs.Memory.{path}
use Rattle.run_memory.specs.View.{path_view}
use Rattle.pcode.specs.View.{code_view}
use Rattle.pcode_vm.specs.Made.{makes_if}
use Rattle.pcode_vm.specs.View.{operands_view, backs_view, state_view}
use Rattle.pcode_vm.proofs.Carried.{from_other}
use Rattle.pcode_vm.proofs.Making.{made_where}
use Rattle.pcode_vm.proofs.machine.Machine.make_there.Goals as goal

pub returns : goal.returns
returns c =
    let old = c.args.self.now in
    let last = record old { operands = c.push_path.new.self } in
    let code = code_view c.args.code.now in
    let q = path_view c.in-Some.path in
    let st = path q ∷ operands_view c.pop_path.new.self in
    from_other c.args.turns _ _ old last c.make_if.new.self c.make_if.result
    (c.in-Some.ensures _
    ∙ made_where code q (c.args.pc + 1) st (backs_view old.backs) (state_view old)
    ∙ ap (λ o. makes_if code o (c.args.pc + 1) st (backs_view old.backs) (state_view old)) (sym c.in_ok-makes.ensures)
    ∙ ap (λ l. makes_if code c.in_ok-makes.makes (c.args.pc + 1) l (backs_view old.backs) (state_view old)) (sym c.in_ok-push_path.ensures))
    refl c.make_if.ensures
