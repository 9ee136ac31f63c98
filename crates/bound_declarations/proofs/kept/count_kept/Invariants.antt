use Rattle.std.proofs.Common.{◌≡◌, ◌+◌, map, drop}
use Rattle.constant_values.specs.declared_names.specs.binder.specs.Types.{counted}
use Rattle.constant_values.specs.declared_names.specs.View.{local_view}
use Rattle.bound_declarations.specs.Kept.{is_kept}
use Rattle.bound_declarations.proofs.kept.count_kept.Given as goal

abbrev pub invariant-loop-local : goal.invariant-loop-local
invariant-loop-local l =
    l.count + counted (is_kept l.which) (map local_view (drop l.local-index l.locals)) ≡ counted (is_kept l.which) (map local_view l.locals)
