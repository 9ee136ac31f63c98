use Rattle.std.proofs.Common.{◌≡◌, drop}
use Rattle.vba_values.specs.View.{views}
use Rattle.vba_meaning.specs.References.{objects_in_vals}
use Rattle.run_memory.specs.Referred.{occurs}
use Rattle.run_memory.proofs.looks.+refers.Given as goal

abbrev pub invariant-any_inside_refers-loop-item : goal.invariant-any_inside_refers-loop-item
invariant-any_inside_refers-loop-item l =
    occurs l.object (objects_in_vals (views l.item-items)) ≡ occurs l.object (objects_in_vals (views (drop l.item-index l.item-items)))
