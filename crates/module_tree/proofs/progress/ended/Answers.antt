use Rattle.std.proofs.Common.{◌∙◌, ap}
use Rattle.module_tree.specs.View.{arms_view, and_lone}
use Rattle.module_tree.proofs.Seeing.{arm_line}
use Rattle.module_tree.proofs.progress.ended.Goals as goal

pub returns-in_ok-arms-in-Arm-clause-arms : goal.returns-in_ok-arms-in-Arm-clause-arms
returns-in_ok-arms-in-Arm-clause-arms g c =
    rw c.in-Arm.is (c.in_ok-arms-in-Arm.ensures
    ∙ ap (and_lone (arms_view g.P.Bracketed.view c.in-Arm.arms.items))
    (arm_line g.P.Bracketed.view (record { is_last = c.in-Arm.is_last; line = c.in-Arm.line; body = c.args.read })))
