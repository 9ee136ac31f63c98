use Rattle.run_defaults.proofs.Going.{use_refused, use_then}
use Rattle.run_defaults.proofs.letting.let_through.Goals as goal

pub returns-in_err-next : goal.returns-in_err-next
returns-in_err-next c = use_refused _ _ _ _ _ _ _ _ c.from_residual.ensures.1 c.in_err-next.ensures

pub returns : goal.returns
returns c = use_then _ _ _ _ _ _ _ _ _ _ c.in_ok-next.ensures c.write_next.ensures
