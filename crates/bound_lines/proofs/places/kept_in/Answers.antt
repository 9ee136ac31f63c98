use Rattle.vba_expression.specs.View.{view}
use Rattle.bound_project.specs.DraftView.{draft_view}
use Rattle.bound_terms.specs.bound_accesses.specs.bound_names.specs.View.{env_view}
use Rattle.bound_lines.proofs.Placing.{kept_is}
use Rattle.bound_lines.proofs.places.kept_in.Goals as goal

pub returns-in-Some : goal.returns-in-Some
returns-in-Some c =
    kept_is (env_view c.args.env) (view c.args.expression.now) c.in_ok-tree.tree c.in_ok-standing.standing c.args.header (draft_view c.args.draft.now) (draft_view c.tree_of.new.draft)
    (draft_view c.alone.new.draft) c.in-Some.kept c.in_ok-tree.ensures c.in_ok-standing.ensures c.in-Some.ensures
