use Rattle.std.proofs.Common.{◌≡◌, map, drop}
use Rattle.binder.specs.Types.{type_in_modules}
use Rattle.declared_names.specs.View.{scope_view, space_view}
use Rattle.declared_names.proofs.types.type_in_modules.Given as goal

abbrev pub invariant-loop-space : goal.invariant-loop-space
invariant-loop-space l =
    type_in_modules (scope_view l.scope) (map space_view (drop l.space-index l.scope.spaces.now)) l.name
    ≡ type_in_modules (scope_view l.scope) (map space_view l.scope.spaces.now) l.name
