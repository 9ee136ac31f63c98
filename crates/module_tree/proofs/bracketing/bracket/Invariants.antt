use Rattle.std.specs.Prelude.{map}
use Rattle.std.specs.Vec.Iter.{into_iter_items}
use Rattle.module_tree.proofs.Taken.{IsReadTo}
use Rattle.module_tree.proofs.bracketing.bracket.Given as goal

abbrev pub invariant-parts : goal.invariant-parts
invariant-parts g l = IsReadTo g.P.Bracketed.view (map g.P.Bracketed.view l.fn.parts.items) l.progress (into_iter_items l.part-iterator)
