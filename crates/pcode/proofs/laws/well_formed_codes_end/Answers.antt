use Rattle.pcode.proofs.Steady.{steady}
use Rattle.pcode.proofs.laws.well_formed_codes_end.Goals as goal

pub returns : goal.returns
returns c = λ code well. steady code well
