use Rattle.statement_nodes.proofs.Items.{test_range_pushed}
use Rattle.bound_lines.proofs.case_lines.push_range.Goals as goal

pub returns : goal.returns
returns c =
    λ rest. test_range_pushed _ _ c.in_ok-low_of.low_of c.in_ok-high_of.high_of c.expression_place-low_at.result c.expression_place-high_at.result _ _ rest _ _ _ _ _
    c.in_ok-begin_test.ensures c.in_ok-low_of.ensures c.in_ok-high_of.ensures c.expression_place-low_at.ensures c.expression_place-high_at.ensures c.in_ok-end_range.ensures
