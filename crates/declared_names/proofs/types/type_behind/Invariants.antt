use Rattle.std.proofs.Common.{◌≡◌, map, drop}
use Rattle.binder.specs.Types.{type_behind}
use Rattle.declared_names.specs.View.{scope_view, space_view}
use Rattle.declared_names.proofs.types.type_behind.Given as goal

abbrev pub invariant-loop-space : goal.invariant-loop-space
invariant-loop-space l =
    type_behind (scope_view l.scope) (map space_view (drop l.space-index l.scope.spaces.now)) l.qualifier l.name
    ≡ type_behind (scope_view l.scope) (map space_view l.scope.spaces.now) l.qualifier l.name
