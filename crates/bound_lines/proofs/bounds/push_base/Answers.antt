use Rattle.bound_project.specs.DraftView.{draft_view}
use Rattle.bound_terms.specs.bound_accesses.specs.bound_names.specs.View.{env_view}
use Rattle.vba_expression.specs.View.{view as expression_view}
use Rattle.statement_nodes.proofs.Arrays.{base_read}
use Rattle.bound_lines.proofs.bounds.push_base.Goals as goal

pub returns : goal.returns
returns c =
    λ all rest base read.
    base_read (env_view c.args.env) (expression_view c.args.high.now) c.expression_place.result c.base.result c.in_ok-push_integer.field-0 all rest c.args.before c.in_ok-count.count base
    (draft_view c.args.draft.now) (draft_view c.push_integer.new.draft) c.expression_place.ensures c.base.ensures c.in_ok-push_integer.ensures c.in_ok-count.ensures read
