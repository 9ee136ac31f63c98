use Rattle.run_defaults.proofs.Going.{act_refused, act_then}
use Rattle.run_defaults.proofs.letting.let_element.Goals as goal

pub returns-in_err-element : goal.returns-in_err-element
returns-in_err-element c = act_refused _ _ _ _ _ _ _ c.from_residual.ensures.1 c.in_err-element.ensures

pub returns : goal.returns
returns c = act_then _ _ _ _ _ _ _ _ _ c.in_ok-element.ensures c.let_at.ensures
