use Rattle.std.proofs.Common.{◌≡◌, arith}
use Rattle.pcode_run.proofs.steps.let_some.Goals as goal

pub returns-then-count-eq0 : goal.returns-then-count-eq0
returns-then-count-eq0 c = let none : c.args.count ≡ 0 = omega arith in rw none c.come.ensures
