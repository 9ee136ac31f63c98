use Rattle.std.proofs.Common.{◌≡◌, map, take}
use Rattle.bound_project.specs.View.{parameter_view}
use Rattle.bound_calls.proofs.shapes.each_of.Given as goal

abbrev pub invariant-loop-parameter : goal.invariant-loop-parameter
invariant-loop-parameter l = map (λ p. parameter_view p.now) l.each.items ≡ map parameter_view (take l.parameter-index l.parameters)
