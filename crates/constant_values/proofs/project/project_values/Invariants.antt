use Rattle.std.proofs.Common.{◌≡◌, ◌+◌, map, length}
use Rattle.declared_names.specs.View.{space_view}
use Rattle.constant_values.specs.Tables.{AreRounds}
use Rattle.constant_values.proofs.project.project_values.Given as goal

abbrev pub invariant-loop-left : goal.invariant-loop-left
invariant-loop-left l = AreRounds l.earlier.items l.last.items (map space_view l.spaces) × (length l.earlier.items + l.left ≡ l.most)

abbrev pub decreases-loop-left : goal.decreases-loop-left
decreases-loop-left l = l.left
