use Rattle.std.proofs.Common.{length, map, Option}
use Rattle.bound_project.specs.DraftView.{draft_view}
use Rattle.bound_project.specs.Drafts.{Drafted}
use Rattle.bound_project.specs.Pieces.{tests_off}
use Rattle.bound_project.specs.Statements.{Tests}
use Rattle.bound_terms.specs.bound_accesses.specs.bound_names.specs.bound_members.specs.bound_calls.specs.bound_forms.specs.StatementsBound.{case_tests}
use Rattle.bound_terms.specs.bound_accesses.specs.bound_names.specs.View.{env_view}
use Rattle.vba_module.specs.Headers.{items_of}
use Rattle.vba_tree.specs.View.{test_view}
use Rattle.statement_nodes.specs.Reads.{Read}
use Rattle.bound_lines.proofs.case_lines.push_behind.Given as goal

abbrev pub invariant-tests : goal.invariant-tests
invariant-tests l =
    (all : Option Tests) (base : Drafted)
    → Read Tests tests_off all (case_tests (env_view l.env) (items_of (map (λ next. (next.mark, test_view next.item)) l.others))) l.before base (draft_view l.fn.draft)
    → Read Tests tests_off all (case_tests (env_view l.env) (items_of (map (λ next. (next.mark, test_view next.item)) l.left))) l.pushed base (draft_view l.draft)

abbrev pub decreases-tests : goal.decreases-tests
decreases-tests l = length l.left
