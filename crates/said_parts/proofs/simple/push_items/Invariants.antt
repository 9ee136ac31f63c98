use Rattle.std.proofs.Common.{◌≡◌, ◌++◌, drop, map}
use Rattle.std.specs.Prelude.{flat_map}
use Rattle.vba_tree.specs.Tree.{PrintItem}
use Rattle.vba_tree.specs.View.{print_item_view}
use Rattle.binder.specs.Said as plain
use Rattle.said_parts.specs.View.{all_said}
use Rattle.said_parts.proofs.simple.push_items.Given as goal

abbrev pub invariant-loop-item : goal.invariant-loop-item
invariant-loop-item l =
    all_said l.said.items ++ flat_map (λ (i : PrintItem). plain.shown_said i.value) (map print_item_view (drop l.item-index l.items))
    ≡ all_said l.fn.said.items ++ flat_map (λ (i : PrintItem). plain.shown_said i.value) (map print_item_view l.items)
