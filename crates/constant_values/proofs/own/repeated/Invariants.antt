use Rattle.std.proofs.Common.{◌≡◌}
use Rattle.declared_names.specs.View.{scope_view}
use Rattle.constant_values.specs.Tables.{repeated_locals}
use Rattle.constant_values.specs.View.{slots_view, tables_view}
use Rattle.constant_values.proofs.own.repeated.Given as goal

abbrev pub invariant-loop-left : goal.invariant-loop-left
invariant-loop-left l =
    repeated_locals l.left (scope_view l.scope) (tables_view l.entries) (slots_view l.slots.items)
    ≡ repeated_locals l.fn.rounds (scope_view l.scope) (tables_view l.entries) (slots_view l.fn.first.items)

abbrev pub decreases-loop-left : goal.decreases-loop-left
decreases-loop-left l = l.left
