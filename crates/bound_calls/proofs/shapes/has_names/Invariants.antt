use Rattle.std.proofs.Common.{◌≡◌, drop}
use Rattle.bound_forms.specs.Terms as plain
use Rattle.bound_calls.specs.Shapes.{shapes_given}
use Rattle.bound_calls.proofs.shapes.has_names.Given as goal

abbrev pub invariant-loop-shape : goal.invariant-loop-shape
invariant-loop-shape l = plain.has_names (shapes_given (drop l.shape-index l.shapes)) ≡ plain.has_names (shapes_given l.shapes)
