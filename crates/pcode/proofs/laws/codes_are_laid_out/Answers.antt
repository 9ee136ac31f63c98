use Rattle.pcode.proofs.Lays.{laid}
use Rattle.pcode.proofs.laws.codes_are_laid_out.Goals as goal

pub returns : goal.returns
returns c = λ pr. laid pr
