use Rattle.statement_nodes.proofs.Items.{test_is_pushed}
use Rattle.bound_lines.proofs.case_lines.push_is.Goals as goal

pub returns : goal.returns
returns c = λ rest. test_is_pushed c.args.operator c.args.at _ c.in_ok-of.of rest _ _ _ _ c.in_ok-begin_test.ensures c.in_ok-of.ensures c.in_ok-end_test.ensures
