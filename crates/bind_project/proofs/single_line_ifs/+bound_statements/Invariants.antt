use Rattle.std.proofs.Common.{drop, map}
use Rattle.bound_project.specs.DraftView.{draft_view}
use Rattle.statement_nodes.specs.statement_numbers.specs.View.{standing_view}
use Rattle.vba_tree.specs.View.{next_view}
use Rattle.statement_nodes.specs.Nexts.{OthersWalked}
use Rattle.bound_lines.specs.Round.{around_view}
use Rattle.bind_project.proofs.single_line_ifs.+bound_statements.Given as goal

abbrev pub invariant-bind_others-loop-next : goal.invariant-bind_others-loop-next
invariant-bind_others-loop-next l =
    OthersWalked (around_view l.around) (standing_view l.standing) (map next_view l.fn.others.items) l.fn.number l.fn.behind (draft_view l.fn.draft)
    (map next_view (drop l.next-index l.next-items)) l.left.number l.left.end l.left.behind (draft_view l.draft)
