use Rattle.std.proofs.lemmas.Result.{IfOk-weaker}
use Rattle.statement_terms.proofs.targets.assign_constant.Goals as goal

pub returns : goal.returns
returns c = IfOk-weaker c.assign_wrong.result _ _ (λ k h all has may. h all has may (c.if-not-is_wrong.ensures all c.args.place)) c.assign_wrong.ensures
