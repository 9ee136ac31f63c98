use Rattle.std.proofs.Common.{◌≡◌, drop}
use Rattle.bound_operands.specs.Untaken.{all_plain}
use Rattle.bound_operands.proofs.untaken.all_plain.Given as goal

abbrev pub invariant-loop-shape : goal.invariant-loop-shape
invariant-loop-shape l = all_plain (drop l.shape-index l.shapes) ≡ all_plain l.shapes
