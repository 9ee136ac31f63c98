use Rattle.std.proofs.Common.{◌≡◌, ◌+◌, map, drop}
use Rattle.binder.specs.Types.{class_number}
use Rattle.declared_names.specs.View.{space_view}
use Rattle.declared_names.proofs.numbers.class_number.Given as goal

abbrev pub invariant-loop-space : goal.invariant-loop-space
invariant-loop-space l =
    l.number + class_number (map space_view (drop l.space-index l.spaces)) (space_view l.here)
    ≡ class_number (map space_view l.spaces) (space_view l.here)
