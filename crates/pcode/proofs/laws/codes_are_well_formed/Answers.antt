use Rattle.pcode.proofs.Sounds.{well_formed}
use Rattle.pcode.proofs.laws.codes_are_well_formed.Goals as goal

pub returns : goal.returns
returns c = λ pr whole. well_formed pr whole
