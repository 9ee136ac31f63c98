use Rattle.vba_tree.proofs.Tokens.{part_pushed, statements_pushed}
use Rattle.vba_tree.proofs.spelling.push_statements.Goals as goal

pub returns : goal.returns
returns c = part_pushed _ _ _ _ _ _ c.in_ok-push_label.ensures (statements_pushed _ _ _ _ _ _ c.in_ok-push_first.ensures c.push_others.ensures)
