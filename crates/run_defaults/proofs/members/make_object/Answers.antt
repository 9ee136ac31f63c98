use Rattle.run_defaults.proofs.Making.{made_tells}
use Rattle.run_defaults.proofs.members.make_object.Goals as goal

pub returns : goal.returns
returns c = made_tells _ _ _ _ _ _ _ c.in_ok-number.ensures c.in_ok-tell_made.ensures
