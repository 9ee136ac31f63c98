use Rattle.std.proofs.Common.{◌≡◌, sym, subst, arith}
use Rattle.std.specs.Prelude.{IfOk}
use Rattle.vba_values.specs.Val.{Val}
use Rattle.vba_values.specs.declared.value.Value.{Value}
use Rattle.vba_values.specs.View.{view}
use Rattle.pcode_vm.proofs.Coming.{base_at}
use Rattle.pcode_vm.proofs.operands.Operands.base_below.Goals as goal

pub returns : goal.returns
returns c =
    subst (λ (v : Val). IfOk c.value_in_slot.result (λ (w : Value). view w ≡ v))
    (sym (base_at c.args.self.now.slots.items c.args.arguments _ c.index.result.now c.index.ensures (omega arith))) c.value_in_slot.ensures
