use Rattle.std.proofs.Common.{◌≡◌, ◌++◌, take}
use Rattle.vba_values.specs.Objects.{references_in}
use Rattle.vba_values.specs.View.{views}
use Rattle.vba_values.proofs.references.+references.Given as goal

abbrev pub invariant-add_inner_references-loop-item : goal.invariant-add_inner_references-loop-item
invariant-add_inner_references-loop-item l =
    l.references.items ≡ l.initial.references.items ++ references_in (views (take l.item-index l.item-items))
