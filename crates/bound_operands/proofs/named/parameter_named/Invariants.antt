use Rattle.std.proofs.Common.{◌≡◌, map, drop}
use Rattle.bound_project.specs.View.{parameter_view}
use Rattle.bound_members.specs.bound_calls.specs.bound_forms.specs.Terms.{parameter_named}
use Rattle.bound_operands.proofs.named.parameter_named.Given as goal

abbrev pub invariant-loop-parameter : goal.invariant-loop-parameter
invariant-loop-parameter l = parameter_named l.number (map parameter_view (drop l.parameter-index l.parameters)) l.name.name ≡ parameter_named l.first (map parameter_view l.parameters) l.name.name
