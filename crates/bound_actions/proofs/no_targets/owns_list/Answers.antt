use Rattle.std.proofs.Common.{sym}
use Rattle.bound_actions.proofs.NoTargets.{other_own}
use Rattle.bound_actions.proofs.no_targets.owns_list.Goals as goal

pub returns-in_default : goal.returns-in_default
returns-in_default c = sym (other_own c.args.own c.in_default.not-Parameter)
