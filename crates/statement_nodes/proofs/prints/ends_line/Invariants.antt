use Rattle.std.proofs.Common.{◌≡◌, length, map}
use Rattle.bound_calls.specs.bound_forms.specs.StatementsBound.{ends_line}
use Rattle.vba_tree.specs.View.{print_item_view}
use Rattle.statement_nodes.specs.Reads.{ends_after}
use Rattle.statement_nodes.proofs.prints.ends_line.Given as goal

abbrev pub invariant-items : goal.invariant-items
invariant-items l = ends_after l.ends (map print_item_view l.left) ≡ ends_line (map print_item_view l.items)

abbrev pub decreases-items : goal.decreases-items
decreases-items l = length l.left
