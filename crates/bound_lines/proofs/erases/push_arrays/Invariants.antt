use Rattle.std.proofs.Common.{length, map}
use Rattle.bound_project.specs.DraftView.{draft_view}
use Rattle.bound_project.specs.Pieces.{arrays_off}
use Rattle.bound_project.specs.Statements.{Arrays}
use Rattle.bound_terms.specs.bound_accesses.specs.bound_names.specs.bound_members.specs.bound_calls.specs.bound_forms.specs.StatementsBound.{erased_arrays}
use Rattle.bound_terms.specs.bound_accesses.specs.bound_names.specs.View.{env_view}
use Rattle.vba_expression.specs.View.{view as expression_view}
use Rattle.vba_module.specs.Headers.{all_of, items_of}
use Rattle.vba_tree.specs.View.{listed_view}
use Rattle.statement_nodes.specs.Reads.{Read}
use Rattle.bound_lines.proofs.erases.push_arrays.Given as goal

abbrev pub invariant-others : goal.invariant-others
invariant-others l =
    Read Arrays arrays_off (erased_arrays (env_view l.env) (all_of (listed_view expression_view l.list))) (erased_arrays (env_view l.env) (items_of (map (λ next. (next.mark, expression_view next.item)) l.left)))
    l.count (draft_view l.fn.draft) (draft_view l.draft)

abbrev pub decreases-others : goal.decreases-others
decreases-others l = length l.left
