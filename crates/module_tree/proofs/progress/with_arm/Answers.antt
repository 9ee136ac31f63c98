use Rattle.std.proofs.Common.{ap, ◌∙◌}
use Rattle.module_tree.specs.View.{arms_view}
use Rattle.module_tree.proofs.Pushed.{arms_push}
use Rattle.module_tree.proofs.progress.with_arm.Goals as goal

pub returns : goal.returns
returns g c = ap (arms_view g.P.Bracketed.view) c.in_ok-push.ensures.items ∙ arms_push g.P.Bracketed.view c.args.arms.items c.args.arm
