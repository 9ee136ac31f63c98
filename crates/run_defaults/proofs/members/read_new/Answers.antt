use Rattle.run_defaults.proofs.Going.{use_acts, use_refused}
use Rattle.run_defaults.proofs.members.read_new.Goals as goal

pub returns-in_err-id : goal.returns-in_err-id
returns-in_err-id c = use_refused _ _ _ _ _ _ _ _ c.from_residual.ensures.1 c.in_err-id.ensures

pub returns : goal.returns
returns c = use_acts _ _ _ _ _ _ _ _ _ c.in_ok-id.ensures (rw c.initialize_of-procedure.ensures at c.read_initialized.ensures)
