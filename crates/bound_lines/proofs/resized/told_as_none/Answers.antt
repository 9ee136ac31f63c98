use Rattle.std.proofs.Common.{sym, ◌∙◌}
use Rattle.vba_expression.specs.View.{view}
use Rattle.bound_project.specs.DraftView.{draft_view}
use Rattle.bound_terms.specs.bound_accesses.specs.bound_names.specs.View.{env_view}
use Rattle.bound_lines.proofs.Placing.{none_told}
use Rattle.bound_lines.proofs.resized.told_as_none.Goals as goal

pub returns-then-is_no_place : goal.returns-then-is_no_place
returns-then-is_no_place c =
    none_told (env_view c.args.env) (view c.args.expression.now) c.in_ok-tree.tree (draft_view c.args.draft.now) (draft_view c.tree_of.new.draft) c.in_ok-tree.ensures
    (sym c.is_no_place.ensures ∙ c.if-is_no_place.true)
