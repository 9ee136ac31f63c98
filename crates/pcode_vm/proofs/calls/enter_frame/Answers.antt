use Rattle.bound_project.specs.View.{declarations_view}
use Rattle.pcode_vm.proofs.calls.enter_frame.Goals as goal

pub returns : goal.returns
returns c = c.entered.ensures (declarations_view c.args.declared.now) c.in_ok-own.ensures
