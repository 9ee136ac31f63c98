use Rattle.std.proofs.Common.{length}
use Rattle.bound_project.specs.DraftView.{draft_view}
use Rattle.statement_nodes.specs.statement_numbers.specs.View.{walk_view}
use Rattle.bound_lines.specs.Round.{around_view}
use Rattle.statement_nodes.specs.Walks.{Walked}
use Rattle.bind_project.proofs.walk.bind_body.Given as goal

abbrev pub invariant-parts : goal.invariant-parts
invariant-parts l =
    Walked (around_view l.around) (around_view l.around).parts (draft_view l.fn.draft) (walk_view l.walk) (draft_view l.draft)

abbrev pub decreases-parts : goal.decreases-parts
decreases-parts l = length (walk_view l.walk)
