use Rattle.std.proofs.Common.{◌≡◌, ◌++◌, map, length}
use Rattle.std.specs.Vec.Iter.{into_iter_items, into_iter_len}
use Rattle.module_parts.specs.Nexts.{written_in}
use Rattle.module_parts.specs.View.{parts_view}
use Rattle.vba_module.specs.Parts.{as_parts}
use Rattle.vba_tree.specs.View.{next_view}
use Rattle.module_parts.proofs.splitting.push_others.Given as goal

abbrev pub invariant-loop-next : goal.invariant-loop-next
invariant-loop-next l = record {
  all :
      parts_view l.parts.items ++ as_parts (written_in (map next_view (into_iter_items l.next-iterator)))
      ≡ parts_view l.fn.parts.items ++ as_parts (written_in (map next_view l.fn.others.items));
  len : into_iter_len l.next-iterator ≡ length (into_iter_items l.next-iterator);
}
