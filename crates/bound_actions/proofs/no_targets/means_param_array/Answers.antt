use Rattle.std.proofs.Common.{sym}
use Rattle.bound_actions.proofs.NoTargets.{other_meant}
use Rattle.bound_actions.proofs.no_targets.means_param_array.Goals as goal

pub returns-in_default : goal.returns-in_default
returns-in_default c = sym (other_meant c.args.meant c.in_default.not-OfProcedure)
