use Rattle.std.proofs.Common.{◌≡◌, drop, map}
use Rattle.std.specs.List.{list_all}
use Rattle.bound_project.specs.View.{parameter_view}
use Rattle.bound_forms.specs.Terms as plain
use Rattle.class_defaults.proofs.items.takes_none.Given as goal

abbrev pub invariant-loop-parameter : goal.invariant-loop-parameter
invariant-loop-parameter l = list_all plain.may_lack (map parameter_view (drop l.parameter-index l.parameters)) ≡ list_all plain.may_lack (map parameter_view l.parameters)
