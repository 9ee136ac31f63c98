use Rattle.std.proofs.Common.{◌≡◌, ◌++◌, drop}
use Rattle.std.specs.Prelude.{flat_map}
use Rattle.vba_module.specs.Headers.{all_of}
use Rattle.vba_tree.specs.View.{listed_view, test_view}
use Rattle.binder.specs.Said as plain
use Rattle.said_parts.specs.View.{all_said, behind}
use Rattle.said_parts.proofs.blocks.push_tests.Given as goal

abbrev pub invariant-loop-next : goal.invariant-loop-next
invariant-loop-next l =
    all_said l.said.items ++ flat_map plain.test_said (behind test_view (drop l.next-index l.next-items))
    ≡ all_said l.fn.said.items ++ flat_map plain.test_said (all_of (listed_view test_view l.tests))
