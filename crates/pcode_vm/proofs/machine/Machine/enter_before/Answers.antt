use Rattle.std.proofs.Common.{refl, map}
use Rattle.std.specs.Prelude.{◌∷◌}
use Rattle.vba_values.specs.View.{view}
use Rattle.run_memory.specs.View.{slot_view}
use Rattle.pcode.specs.Machine.{enters}
use Rattle.pcode.specs.View.{code_view}
use Rattle.pcode_vm.specs.View.{back_view, backs_view, state_view}
use Rattle.pcode_vm.proofs.Carried.{from_same}
use Rattle.pcode_vm.proofs.machine.Machine.enter_before.Goals as goal

pub returns : goal.returns
returns c =
    let old = c.args.self.now in
    let move = enters (code_view c.args.code.now) c.args.called c.args.procedure (view c.args.me) (map slot_view c.args.arguments.items) (back_view c.args.back ∷ backs_view old.backs) (state_view old) in
    from_same c.args.turns move old (record old { backs = c.push.new.self }) c.enter.new.self c.enter.result refl (rw c.in_ok-push.ensures at c.enter.ensures)
