use Rattle.std.proofs.Common.{map}
use Rattle.bound_terms.specs.bound_accesses.specs.bound_names.specs.bound_members.specs.bound_calls.specs.bound_forms.specs.StatementsBound.{erased_arrays}
use Rattle.bound_project.specs.DraftView.{draft_view}
use Rattle.bound_terms.specs.bound_accesses.specs.bound_names.specs.View.{env_view}
use Rattle.vba_expression.specs.View.{view as expression_view}
use Rattle.vba_module.specs.Headers.{all_of, items_of}
use Rattle.vba_tree.specs.View.{listed_view}
use Rattle.statement_nodes.proofs.Arrays.{arrays_begin}
use Rattle.bound_lines.proofs.erases.push_arrays.Goals as goal

pub others-init : goal.others-init
others-init c =
    let all = erased_arrays (env_view c.args.env) (all_of (listed_view expression_view c.args.list.now)) in
    let rest = items_of (map (λ next. (next.mark, expression_view next.item)) c.args.list.now.others.items) in
    let before = draft_view c.args.draft.now in
    rw (c.as_slice-left.ensures.value) (c.in_ok-count.ensures all rest before (arrays_begin all before))
