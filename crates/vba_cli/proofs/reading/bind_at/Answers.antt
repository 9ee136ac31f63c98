use Rattle.std.proofs.lemmas.Result.{IfOk-weaker}
use Rattle.vba_cli.proofs.Bound.{bound_fits}
use Rattle.vba_cli.proofs.reading.bind_at.Goals as goal

pub returns-clause-fits : goal.returns-clause-fits
returns-clause-fits c = IfOk-weaker c.bind.result _ _ (λ b is. bound_fits _ _ b is) c.bind.ensures
