use Rattle.std.proofs.Common.{◌≡◌, length}
use Rattle.declared_names.specs.View.{scope_view}
use Rattle.constant_values.specs.Tables.{passed, rounds_view}
use Rattle.constant_values.specs.View.{slots_view}
use Rattle.constant_values.proofs.own.passed.Given as goal

abbrev pub invariant-loop-left : goal.invariant-loop-left
invariant-loop-left l =
    passed (scope_view l.scope) (slots_view l.slots.items) (rounds_view l.left) ≡ passed (scope_view l.scope) (slots_view l.fn.first.items) (rounds_view l.fn.rounds)

abbrev pub decreases-loop-left : goal.decreases-loop-left
decreases-loop-left l = length l.left
