use Rattle.std.proofs.Common.{length, map, Option}
use Rattle.bound_project.specs.DraftView.{draft_view}
use Rattle.bound_project.specs.Drafts.{Drafted}
use Rattle.bound_project.specs.Expressions.{Prints}
use Rattle.bound_project.specs.Pieces.{prints_off}
use Rattle.bound_terms.specs.bound_accesses.specs.bound_names.specs.bound_members.specs.bound_calls.specs.bound_forms.specs.StatementsBound.{items_shown}
use Rattle.bound_terms.specs.bound_accesses.specs.bound_names.specs.View.{env_view}
use Rattle.vba_tree.specs.View.{print_item_view}
use Rattle.statement_nodes.specs.Reads.{Read}
use Rattle.bound_lines.proofs.prints.push_items.Given as goal

abbrev pub invariant-items : goal.invariant-items
invariant-items l =
    (all : Option Prints) (base : Drafted)
    → Read Prints prints_off all (items_shown (env_view l.env) (map print_item_view l.items)) l.before base (draft_view l.fn.draft)
    → Read Prints prints_off all (items_shown (env_view l.env) (map print_item_view l.left)) l.pushed base (draft_view l.draft)

abbrev pub decreases-items : goal.decreases-items
decreases-items l = length l.left
