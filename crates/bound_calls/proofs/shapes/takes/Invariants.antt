use Rattle.std.proofs.Common.{◌≡◌, drop, map}
use Rattle.bound_project.specs.View.{parameter_view}
use Rattle.bound_forms.specs.Terms as plain
use Rattle.bound_calls.specs.Shapes.{shapes_given}
use Rattle.bound_calls.proofs.shapes.takes.Given as goal

abbrev pub invariant-loop-number : goal.invariant-loop-number
invariant-loop-number l =
    plain.takes (map parameter_view l.left) (shapes_given (drop l.number l.shapes)) ≡ plain.takes (map parameter_view l.parameters) (shapes_given l.shapes)
