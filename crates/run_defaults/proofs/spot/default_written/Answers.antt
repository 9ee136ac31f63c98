use Rattle.run_defaults.proofs.Going.{done_tells, use_refused, view_empty}
use Rattle.run_defaults.proofs.spot.default_written.Goals as goal

pub returns-in_err-written_default : goal.returns-in_err-written_default
returns-in_err-written_default c = use_refused _ _ _ _ _ _ _ _ c.from_residual.ensures.1 c.in_err-written_default.ensures

pub returns : goal.returns
returns c = done_tells _ _ _ _ _ view_empty c.in_ok-written_default.ensures
