use Rattle.vba_expression.specs.View.{view as expression_view}
use Rattle.bound_project.specs.DraftView.{draft_view}
use Rattle.bound_accesses.specs.bound_names.specs.View.{env_view}
use Rattle.bound_accesses.specs.bound_names.specs.bound_members.specs.bound_calls.proofs.Steps.{binds_operand}
use Rattle.bound_terms.proofs.pass.bind_operand.Goals as goal

pub returns : goal.returns
returns c =
    binds_operand (env_view c.args.env) (expression_view c.args.expression.now) c.in_ok-tree.tree (draft_view c.args.draft.now) (draft_view c.tree_of.new.draft) (draft_view c.push_operand.new.draft) c.in_ok-of.of
    c.in_ok-tree.ensures c.in_ok-of.ensures
