use Rattle.std.proofs.Common.{◌≡◌, ◌++◌, drop, map}
use Rattle.vba_tree.specs.View.{next_view}
use Rattle.said_parts.specs.Statements.{all_next_said}
use Rattle.said_parts.specs.View.{all_said}
use Rattle.said_parts.proofs.statements.+statements.Given as goal

abbrev pub invariant-push_others-loop-next : goal.invariant-push_others-loop-next
invariant-push_others-loop-next l =
    all_said l.said.items ++ all_next_said l.is_static (map next_view (drop l.next-index l.next-items))
    ≡ all_said l.fn.said.items ++ all_next_said l.is_static (map next_view l.fn.others.items)
