use Rattle.std.proofs.Common.{◌≡◌, ◌++◌, map, length}
use Rattle.declared_names.specs.binder.specs.Declarations.{Local}
use Rattle.declared_names.specs.binder.specs.Constants.{own_by}
use Rattle.declared_names.specs.View.{local_view, scope_view}
use Rattle.constant_values.specs.Names.{names_from, locals_by}
use Rattle.constant_values.specs.View.{names_view, slots_view}
use Rattle.constant_values.proofs.tables.locals_by.Given as goal

abbrev pub invariant-loop-left : goal.invariant-loop-left
invariant-loop-left l =
    slots_view l.slots.items ++ map (λ (x : Local). own_by (names_from (names_view l.names)) (scope_view l.scope) x.own) (map local_view l.left)
    ≡ locals_by (names_view l.names) (scope_view l.scope)

abbrev pub decreases-loop-left : goal.decreases-loop-left
decreases-loop-left l = length l.left
