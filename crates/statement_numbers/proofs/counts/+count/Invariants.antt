use Rattle.std.proofs.Common.{◌≡◌, take, map}
use Rattle.vba_tree.specs.View.{next_view}
use Rattle.statement_numbers.specs.Counts.{next_counts}
use Rattle.statement_numbers.proofs.counts.+count.Given as goal

abbrev pub invariant-count_others-loop-next : goal.invariant-count_others-loop-next
invariant-count_others-loop-next l = l.counted ≡ next_counts (map next_view (take l.next-index l.next-items))
