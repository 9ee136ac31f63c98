use Rattle.vba_expression.specs.View.{view}
use Rattle.bound_project.specs.DraftView.{draft_view}
use Rattle.bound_terms.specs.bound_accesses.specs.bound_names.specs.View.{env_view}
use Rattle.bound_lines.proofs.resized.bind_found.Goals as goal

pub returns : goal.returns
returns c = c.in_ok-of.ensures (env_view c.args.env) (view c.args.expression.now) (draft_view c.args.draft.now) c.in_ok-tree.ensures
