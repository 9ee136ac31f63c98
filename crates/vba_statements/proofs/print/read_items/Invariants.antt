use Rattle.std.proofs.Common.{suc, length, map}
use Rattle.vba_tree.specs.View.{print_item_view}
use Rattle.vba_grammar.specs.Statements.{items_at}
use Rattle.vba_statements.proofs.Prints.{Goes}
use Rattle.vba_statements.proofs.print.read_items.Given as goal

abbrev pub invariant-items : goal.invariant-items
invariant-items l = Goes (items_at (suc (length l.fn.tokens)) l.fn.tokens) (map print_item_view l.items.items) l.left

abbrev pub decreases-items : goal.decreases-items
decreases-items l = length l.left
