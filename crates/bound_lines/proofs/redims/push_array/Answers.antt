use Rattle.bound_terms.specs.bound_accesses.specs.bound_names.specs.View.{env_view}
use Rattle.vba_tree.specs.View.{array_view}
use Rattle.statement_nodes.proofs.Arrays.{array_pushed}
use Rattle.bound_lines.proofs.redims.push_array.Goals as goal

pub returns : goal.returns
returns c =
    λ rest. array_pushed (env_view c.args.env) (array_view c.args.array.now) rest _ c.in_ok-told.told.of c.in_ok-told.told.place c.in_ok-bounds.bounds _ _ _ _ _
    c.in_ok-of.ensures c.in_ok-told.ensures c.in_ok-bounds.ensures c.in_ok-mark_bounds.ensures c.in_ok-end_array.ensures
