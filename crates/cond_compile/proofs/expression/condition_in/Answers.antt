use Rattle.std.proofs.Common.{◌∙◌, ap}
use Rattle.cond_compile.specs.Selection.{in_condition}
use Rattle.cond_compile.proofs.Values.{condition_of}
use Rattle.cond_compile.proofs.expression.condition_in.Goals as goal

pub returns : goal.returns
returns c = c.before_then.ensures ∙ (ap in_condition c.in_ok-reading.ensures ∙ condition_of _ _)
