use Rattle.std.proofs.Common.{◌∙◌, ap}
use Rattle.cond_compile.specs.Selection.{in_constant}
use Rattle.cond_compile.proofs.Values.{constant_of}
use Rattle.cond_compile.proofs.expression.whole_in.Goals as goal

pub returns : goal.returns
returns c = c.to_end.ensures ∙ (ap in_constant c.in_ok-reading.ensures ∙ constant_of _ _)
