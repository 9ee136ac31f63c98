use Rattle.std.proofs.Common.{◌≡◌, ◌+◌, map, length}
use Rattle.declared_names.specs.binder.specs.Constants.{all_entries}
use Rattle.declared_names.specs.View.{space_view}
use Rattle.constant_values.proofs.project.all_entries.Given as goal

abbrev pub invariant-loop-left : goal.invariant-loop-left
invariant-loop-left l = l.count + all_entries (map space_view l.left) ≡ all_entries (map space_view l.spaces)

abbrev pub decreases-loop-left : goal.decreases-loop-left
decreases-loop-left l = length l.left
