use Rattle.std.proofs.Common.{◌≡◌, ◌++◌, drop, map}
use Rattle.vba_module.specs.Headers.{all_of}
use Rattle.vba_tree.specs.View.{listed_view}
use Rattle.vba_expression.specs.View.{view as expression_view}
use Rattle.binder.specs.Said as plain
use Rattle.said_parts.specs.View.{all_said, behind}
use Rattle.said_parts.proofs.simple.push_places.Given as goal

abbrev pub invariant-loop-next : goal.invariant-loop-next
invariant-loop-next l =
    all_said l.said.items ++ map plain.expression (behind expression_view (drop l.next-index l.next-items))
    ≡ all_said l.fn.said.items ++ map plain.expression (all_of (listed_view expression_view l.places))
