use Rattle.std.proofs.Common.{ap}
use Rattle.bound_project.specs.DraftView.{draft_view}
use Rattle.bound_terms.specs.bound_accesses.specs.bound_names.specs.View.{env_view}
use Rattle.vba_expression.specs.View.{view as expression_view}
use Rattle.vba_tree.specs.View.{test_view}
use Rattle.statement_nodes.proofs.Items.{value_test, range_test, comparison_test}
use Rattle.bound_lines.proofs.case_lines.push_test.Goals as goal

pub returns-in-Value : goal.returns-in-Value
returns-in-Value c =
    value_test c.push_is.result (env_view c.args.env) (test_view c.args.test.now) c.expression_place.result (expression_view c.in-Value.value) (draft_view c.args.draft.now) (draft_view c.push_is.new.draft)
    (ap test_view c.in-Value.is) c.expression_place.ensures c.push_is.ensures

pub returns-in-Some : goal.returns-in-Some
returns-in-Some c =
    comparison_test c.push_is-in-Some.result (env_view c.args.env) (test_view c.args.test.now) c.in-Comparison.is_word c.in-Comparison.operator c.in-Comparison.operator_token c.in-Some.operator
    (expression_view c.in-Comparison.value) (draft_view c.args.draft.now) (draft_view c.push_is-in-Some.new.draft)
    (ap test_view c.in-Comparison.is) c.in-Some.ensures c.push_is-in-Some.ensures

pub returns-in-Range : goal.returns-in-Range
returns-in-Range c =
    range_test c.push_range.result (env_view c.args.env) (test_view c.args.test.now) (expression_view c.in-Range.low) (expression_view c.in-Range.high) c.in-Range.to_word
    (draft_view c.args.draft.now) (draft_view c.push_range.new.draft) (ap test_view c.in-Range.is) c.push_range.ensures
