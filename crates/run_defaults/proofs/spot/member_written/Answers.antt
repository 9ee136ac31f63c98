use Rattle.run_defaults.proofs.Going.{done_tells, use_refused, view_empty}
use Rattle.run_defaults.proofs.spot.member_written.Goals as goal

pub returns-in_err-member_assigned : goal.returns-in_err-member_assigned
returns-in_err-member_assigned c = use_refused _ _ _ _ _ _ _ _ c.from_residual.ensures.1 c.in_err-member_assigned.ensures

pub returns : goal.returns
returns c = done_tells _ _ _ _ _ view_empty c.in_ok-member_assigned.ensures
