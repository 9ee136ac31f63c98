use Rattle.cond_compile.proofs.Kept.{kept_lie_in}
use Rattle.cond_compile.proofs.laws.kept_lines_are_lines.Goals as goal

pub returns-clause-inside : goal.returns-clause-inside
returns-clause-inside c = kept_lie_in
