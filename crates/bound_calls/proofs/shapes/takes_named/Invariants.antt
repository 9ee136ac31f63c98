use Rattle.std.proofs.Common.{◌≡◌, Some, drop, map}
use Rattle.bound_project.specs.View.{parameter_view}
use Rattle.bound_forms.specs.Terms as plain
use Rattle.bound_calls.specs.Shapes.{shapes_given}
use Rattle.bound_calls.proofs.shapes.takes_named.Given as goal

abbrev pub invariant-loop-shape : goal.invariant-loop-shape
invariant-loop-shape l =
    plain.takes_named (Some (map (λ p. parameter_view p.now) l.left.items)) (shapes_given (drop l.shape-index l.shapes)) ≡ plain.takes_named (Some (map parameter_view l.parameters)) (shapes_given l.shapes)
