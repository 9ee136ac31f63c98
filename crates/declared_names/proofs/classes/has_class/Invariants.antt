use Rattle.std.proofs.Common.{◌≡◌, map, drop}
use Rattle.binder.specs.Classes.{has_class}
use Rattle.declared_names.specs.View.{space_view}
use Rattle.declared_names.proofs.classes.has_class.Given as goal

abbrev pub invariant-loop-space : goal.invariant-loop-space
invariant-loop-space l = has_class (map space_view (drop l.space-index l.spaces)) ≡ has_class (map space_view l.spaces)
