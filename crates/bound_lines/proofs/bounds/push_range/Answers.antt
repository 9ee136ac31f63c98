use Rattle.bound_terms.specs.bound_accesses.specs.bound_names.specs.bound_members.specs.bound_calls.specs.bound_forms.specs.ExpressionsBound.{bound_operand}
use Rattle.constant_values.specs.declared_names.specs.binder.specs.Options.{from_two}
use Rattle.bound_terms.specs.bound_accesses.specs.bound_names.specs.bound_members.specs.bound_calls.specs.bound_forms.specs.StatementsBound.{redim_bounds}
use Rattle.bound_project.specs.DraftView.{draft_view}
use Rattle.bound_project.specs.Expressions.{also}
use Rattle.bound_terms.specs.bound_accesses.specs.bound_names.specs.View.{env_view}
use Rattle.vba_expression.specs.View.{view as expression_view}
use Rattle.statement_nodes.proofs.Arrays.{range_read}
use Rattle.bound_lines.proofs.bounds.push_range.Goals as goal

pub returns : goal.returns
returns c =
    let env = env_view c.args.env in
    let low = expression_view c.args.lower.now in
    let high = expression_view c.args.upper.now in
    λ all rest base to_word read.
    c.in_ok-both.ensures all (redim_bounds env rest) base
    (c.in_ok-low.ensures all (from_two also (bound_operand env high) (redim_bounds env rest)) base
    (range_read env low high to_word rest all c.args.before base (draft_view c.args.draft.now) read))
