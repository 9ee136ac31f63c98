use Rattle.std.proofs.Common.{◌≡◌, ◌++◌, length, map}
use Rattle.vba_tree.specs.Spelling.{tokens_of, spell_print_items}
use Rattle.vba_tree.specs.View.{print_item_view}
use Rattle.vba_tree.proofs.simple_tokens.push_print_items.Given as goal

abbrev pub invariant-loop-others : goal.invariant-loop-others
invariant-loop-others l =
    l.tokens.items ++ tokens_of (spell_print_items (map print_item_view l.others))
    ≡ l.fn.tokens.items ++ tokens_of (spell_print_items (map print_item_view l.fn.others))

abbrev pub decreases-loop-others : goal.decreases-loop-others
decreases-loop-others l = length l.others
