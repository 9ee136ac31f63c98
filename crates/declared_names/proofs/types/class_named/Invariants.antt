use Rattle.std.proofs.Common.{◌≡◌, map, drop}
use Rattle.binder.specs.Types.{class_named}
use Rattle.declared_names.specs.View.{space_view}
use Rattle.declared_names.proofs.types.class_named.Given as goal

abbrev pub invariant-loop-space : goal.invariant-loop-space
invariant-loop-space l =
    class_named (map space_view l.spaces) (map space_view (drop l.space-index l.spaces)) l.name
    ≡ class_named (map space_view l.spaces) (map space_view l.spaces) l.name
