use Rattle.statement_nodes.proofs.Items.{shown_pushed}
use Rattle.bound_lines.proofs.prints.push_shown.Goals as goal

pub returns : goal.returns
returns c = λ rest. shown_pushed _ _ rest _ _ _ c.in_ok-push_operand.ensures c.in_ok-show.ensures
