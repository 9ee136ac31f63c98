use Rattle.std.proofs.Common.{◌∷◌, ap, subst}
use Rattle.bound_terms.specs.bound_accesses.specs.bound_names.specs.bound_members.specs.bound_calls.specs.bound_forms.specs.StatementsBound.{redim_bounds}
use Rattle.bound_project.specs.DraftView.{draft_view}
use Rattle.bound_project.specs.Expressions.{Exprs}
use Rattle.bound_project.specs.Pieces.{exprs_off}
use Rattle.bound_terms.specs.bound_accesses.specs.bound_names.specs.View.{env_view}
use Rattle.vba_tree.specs.Tree as tree
use Rattle.vba_tree.specs.View.{dim_view}
use Rattle.statement_nodes.specs.Reads.{Read}
use Rattle.bound_lines.proofs.bounds.push_dim.Goals as goal

pub returns-in_ok-push_range-in-Range : goal.returns-in_ok-push_range-in-Range
returns-in_ok-push_range-in-Range c =
    λ all rest base read.
    c.in_ok-push_range-in-Range.ensures all rest base c.in-Range.to_word
    (subst (λ (d : tree.Dim). Read Exprs exprs_off all (redim_bounds (env_view c.args.env) (d ∷ rest)) c.args.before base (draft_view c.args.draft.now)) (ap dim_view c.in-Range.is) read)
