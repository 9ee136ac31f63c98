use Rattle.std.proofs.Common.{◌≡◌, map, length}
use Rattle.std.specs.Prelude.{flat_map}
use Rattle.refusal_order.specs.Least.{least_of}
use Rattle.vba_module.specs.Headers.{items_of}
use Rattle.vba_module.specs.Verdict.{broken}
use Rattle.vba_tree.specs.View.{dim_view}
use Rattle.vba_tree.specs.declared.declaration.Dim.{Dim}
use Rattle.vba_tree.specs.declared.list.Next.{Next}
use Rattle.declared_names.specs.binder.specs.Constants.{dim_faults}
use Rattle.declared_names.specs.View.{scope_view}
use Rattle.constant_values.proofs.dims.note_others.Given as goal

abbrev pub invariant-loop-left : goal.invariant-loop-left
invariant-loop-left l =
    least_of l.least (broken 20 (flat_map (dim_faults (scope_view l.constants.scope)) (items_of (map (λ (next : Next Dim). (next.mark, dim_view next.item)) l.left))))
    ≡ least_of l.fn.least (broken 20 (flat_map (dim_faults (scope_view l.constants.scope)) (items_of (map (λ (next : Next Dim). (next.mark, dim_view next.item)) l.others))))

abbrev pub decreases-loop-left : goal.decreases-loop-left
decreases-loop-left l = length l.left
