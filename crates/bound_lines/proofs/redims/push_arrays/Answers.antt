use Rattle.std.proofs.Common.{map}
use Rattle.bound_terms.specs.bound_accesses.specs.bound_names.specs.bound_members.specs.bound_calls.specs.bound_forms.specs.StatementsBound.{redim_arrays}
use Rattle.bound_project.specs.DraftView.{draft_view}
use Rattle.bound_terms.specs.bound_accesses.specs.bound_names.specs.View.{env_view}
use Rattle.vba_module.specs.Headers.{all_of, items_of}
use Rattle.vba_tree.specs.View.{listed_view, array_view}
use Rattle.statement_nodes.proofs.Arrays.{resizes_begin}
use Rattle.bound_lines.proofs.redims.push_arrays.Goals as goal

pub returns : goal.returns
returns c =
    let all = redim_arrays (env_view c.args.env) (all_of (listed_view array_view c.args.list.now)) in
    let rest = items_of (map (λ next. (next.mark, array_view next.item)) c.args.list.now.others.items) in
    let before = draft_view c.args.draft.now in
    c.in_ok-count.ensures all before (rw (c.as_slice.ensures.value) (c.in_ok-pushed.ensures all rest before (resizes_begin all before)))
