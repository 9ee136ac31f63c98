use Rattle.std.proofs.Common.{◌≡◌, ◌+◌, true, refl, sym, ◌∙◌}
use Rattle.vba_values.specs.View.{view}
use Rattle.vba_meaning.specs.Host.{is_counted}
use Rattle.pcode.specs.View.{code_view}
use Rattle.pcode_vm.specs.View.{operands_view, backs_view, state_view}
use Rattle.pcode_vm.proofs.Carried.{from_other}
use Rattle.pcode_vm.proofs.Counted.{gives_way_counted}
use Rattle.pcode_vm.proofs.machine.Machine.plain.Goals as goal

pub returns-then-is_counted : goal.returns-then-is_counted
returns-then-is_counted c =
    let old = c.args.self.now in
    let new = record old { operands = c.pop_value.new.self } in
    let v = view c.in-Some.value in
    let counted : is_counted v ≡ true = sym c.is_counted.ensures ∙ c.if-is_counted.true in
    from_other c.args.turns _ _ old new c.give_way.new.self c.give_way.result
    (c.in-Some.ensures _ ∙ gives_way_counted (code_view c.args.code.now) v (c.args.pc + 1) (operands_view new.operands) (backs_view old.backs) (state_view old) counted) refl c.give_way.ensures
