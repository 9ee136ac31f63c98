use Rattle.std.proofs.Common.{drop, map}
use Rattle.bound_project.specs.View.{parameter_view}
use Rattle.bound_calls.specs.Shapes.{Removes}
use Rattle.bound_calls.proofs.shapes.all_but.Given as goal

abbrev pub invariant-loop-parameter : goal.invariant-loop-parameter
invariant-loop-parameter l =
    Removes l.is_found (map (λ p. parameter_view p.now) l.others.items) (map (λ p. parameter_view p.now) (drop l.parameter-index l.parameters)) (map (λ p. parameter_view p.now) l.parameters) l.name.name
