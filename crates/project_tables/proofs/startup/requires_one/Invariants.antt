use Rattle.std.proofs.Common.{◌≡◌, length, map}
use Rattle.std.specs.List.{list_any}
use Rattle.vba_module.specs.Headers.{all_of, is_required, items_of}
use Rattle.vba_tree.specs.View.{listed_view, parameter_view}
use Rattle.project_tables.proofs.startup.requires_one.Given as goal

abbrev pub invariant-parameters : goal.invariant-parameters
invariant-parameters l =
    list_any is_required (items_of (map (λ next. (next.mark, parameter_view next.item)) l.left))
    ≡ list_any is_required (all_of (listed_view parameter_view l.parameters))

abbrev pub decreases-parameters : goal.decreases-parameters
decreases-parameters l = length l.left
