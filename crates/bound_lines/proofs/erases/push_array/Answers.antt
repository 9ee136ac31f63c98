use Rattle.bound_project.specs.DraftView.{draft_view}
use Rattle.bound_terms.specs.bound_accesses.specs.bound_names.specs.View.{env_view}
use Rattle.vba_expression.specs.View.{view as expression_view}
use Rattle.statement_nodes.proofs.Arrays.{erased_pushed}
use Rattle.bound_lines.proofs.erases.push_array.Goals as goal

pub returns : goal.returns
returns c = λ rest.
    erased_pushed (env_view c.args.env) (expression_view c.args.array.now) rest (draft_view c.args.draft.now) (draft_view c.bind_place.new.draft) (draft_view c.end_array.new.draft) c.in_ok-bind_place.ensures c.in_ok-end_array.ensures
