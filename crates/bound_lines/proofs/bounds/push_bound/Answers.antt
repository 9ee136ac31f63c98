use Rattle.bound_terms.specs.bound_accesses.specs.bound_names.specs.bound_members.specs.bound_calls.specs.bound_forms.specs.ExpressionsBound.{bound_operand}
use Rattle.bound_project.specs.DraftView.{draft_view}
use Rattle.bound_terms.specs.bound_accesses.specs.bound_names.specs.View.{env_view}
use Rattle.vba_expression.specs.View.{view as expression_view}
use Rattle.statement_nodes.proofs.Arrays.{bound_read}
use Rattle.bound_lines.proofs.bounds.push_bound.Goals as goal

pub returns : goal.returns
returns c =
    λ all rest base read.
    bound_read (bound_operand (env_view c.args.env) (expression_view c.args.bound.now)) c.in_ok-push_operand.field-0 all rest c.args.before c.in_ok-plus.field-0 base
    (draft_view c.args.draft.now) (draft_view c.push_operand.new.draft) c.in_ok-push_operand.ensures c.in_ok-plus.ensures read
