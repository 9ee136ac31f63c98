use Rattle.std.proofs.Common.{length, map, Option}
use Rattle.bound_project.specs.DraftView.{draft_view}
use Rattle.bound_project.specs.Drafts.{Drafted}
use Rattle.bound_project.specs.Pieces.{resizes_off}
use Rattle.bound_project.specs.Statements.{Resizes}
use Rattle.bound_terms.specs.bound_accesses.specs.bound_names.specs.bound_members.specs.bound_calls.specs.bound_forms.specs.StatementsBound.{redim_arrays}
use Rattle.bound_terms.specs.bound_accesses.specs.bound_names.specs.View.{env_view}
use Rattle.vba_module.specs.Headers.{items_of}
use Rattle.vba_tree.specs.View.{array_view}
use Rattle.statement_nodes.specs.Reads.{Read}
use Rattle.bound_lines.proofs.redims.push_behind.Given as goal

abbrev pub invariant-arrays : goal.invariant-arrays
invariant-arrays l =
    (all : Option Resizes) (base : Drafted)
    → Read Resizes resizes_off all (redim_arrays (env_view l.env) (items_of (map (λ next. (next.mark, array_view next.item)) l.others))) l.before base (draft_view l.fn.draft)
    → Read Resizes resizes_off all (redim_arrays (env_view l.env) (items_of (map (λ next. (next.mark, array_view next.item)) l.left))) l.pushed base (draft_view l.draft)

abbrev pub decreases-arrays : goal.decreases-arrays
decreases-arrays l = length l.left
