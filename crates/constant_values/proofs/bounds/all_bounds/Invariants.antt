use Rattle.std.proofs.Common.{◌≡◌, map, length}
use Rattle.vba_module.specs.Headers.{all_of, items_of}
use Rattle.vba_tree.specs.View.{dim_view, listed_view}
use Rattle.vba_tree.specs.declared.declaration.Dim.{Dim}
use Rattle.vba_tree.specs.declared.list.Next.{Next}
use Rattle.declared_names.specs.binder.specs.Constants.{known_bound, all_bounds}
use Rattle.declared_names.specs.View.{scope_view}
use Rattle.constant_values.specs.Bounds.{all_behind}
use Rattle.constant_values.proofs.bounds.all_bounds.Given as goal

abbrev pub invariant-loop-left : goal.invariant-loop-left
invariant-loop-left l =
    all_behind l.bounds.items (map (known_bound (scope_view l.constants.scope)) (items_of (map (λ (next : Next Dim). (next.mark, dim_view next.item)) l.left)))
    ≡ all_bounds (map (known_bound (scope_view l.constants.scope)) (all_of (listed_view dim_view l.list)))

abbrev pub decreases-loop-left : goal.decreases-loop-left
decreases-loop-left l = length l.left
