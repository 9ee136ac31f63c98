use Rattle.std.proofs.Common.{◌-◌, ◌≤◌}
use Rattle.declared_names.specs.View.{scope_view}
use Rattle.constant_values.specs.Rounds.{longest}
use Rattle.constant_values.specs.Tables.{AreThrough}
use Rattle.constant_values.proofs.own.further_values.Given as goal

abbrev pub invariant-loop-left : goal.invariant-loop-left
invariant-loop-left l =
    AreThrough (longest (scope_view l.scope) - l.left) l.own (scope_view l.scope) × (l.left ≤ longest (scope_view l.scope))

abbrev pub decreases-loop-left : goal.decreases-loop-left
decreases-loop-left l = l.left
