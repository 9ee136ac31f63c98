use Rattle.std.proofs.Common.{◌≡◌, take, map}
use Rattle.vba_tree.specs.View.{next_view}
use Rattle.statement_numbers.specs.Counts.{next_counts}
use Rattle.statement_nodes.proofs.single_line_ifs.count_others.Given as goal

abbrev pub invariant-loop-next : goal.invariant-loop-next
invariant-loop-next l = l.counted ≡ next_counts (map next_view (take l.next-index l.next-items))
