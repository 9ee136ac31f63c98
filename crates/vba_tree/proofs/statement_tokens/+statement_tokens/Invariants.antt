use Rattle.std.proofs.Common.{◌≡◌, ◌++◌, take, map}
use Rattle.vba_tree.specs.Items.{all_next_tokens}
use Rattle.vba_tree.specs.Spelling.{tokens_of}
use Rattle.vba_tree.specs.View.{next_view}
use Rattle.vba_tree.proofs.statement_tokens.+statement_tokens.Given as goal

abbrev pub invariant-push_others-loop-next : goal.invariant-push_others-loop-next
invariant-push_others-loop-next l =
    l.tokens.items ≡ l.fn.tokens.items ++ tokens_of (all_next_tokens (map next_view (take l.next-index l.next-items)))
