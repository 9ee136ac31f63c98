use Rattle.std.proofs.Common.{length, map, Option}
use Rattle.bound_project.specs.DraftView.{draft_view}
use Rattle.bound_project.specs.Drafts.{Drafted}
use Rattle.bound_project.specs.Expressions.{Exprs}
use Rattle.bound_project.specs.Pieces.{exprs_off}
use Rattle.bound_terms.specs.bound_accesses.specs.bound_names.specs.bound_members.specs.bound_calls.specs.bound_forms.specs.StatementsBound.{redim_bounds}
use Rattle.bound_terms.specs.bound_accesses.specs.bound_names.specs.View.{env_view}
use Rattle.vba_module.specs.Headers.{items_of}
use Rattle.vba_tree.specs.View.{dim_view}
use Rattle.statement_nodes.specs.Reads.{Read}
use Rattle.bound_lines.proofs.bounds.push_behind.Given as goal

abbrev pub invariant-dims : goal.invariant-dims
invariant-dims l =
    (all : Option Exprs) (base : Drafted)
    → Read Exprs exprs_off all (redim_bounds (env_view l.env) (items_of (map (λ next. (next.mark, dim_view next.item)) l.others))) l.before base (draft_view l.fn.draft)
    → Read Exprs exprs_off all (redim_bounds (env_view l.env) (items_of (map (λ next. (next.mark, dim_view next.item)) l.left))) l.pushed base (draft_view l.draft)

abbrev pub decreases-dims : goal.decreases-dims
decreases-dims l = length l.left
