use Rattle.std.proofs.Common.{◌≡◌, drop, map}
use Rattle.std.specs.List.{list_any}
use Rattle.vba_tree.specs.View.{next_view}
use Rattle.bound_declarations.specs.NewWords.{next_makes}
use Rattle.bound_declarations.proofs.new_words.+makes.Given as goal

abbrev pub invariant-others_make-loop-next : goal.invariant-others_make-loop-next
invariant-others_make-loop-next l = list_any next_makes (map next_view (drop l.next-index l.next-items)) ≡ list_any next_makes (map next_view l.fn.others.items)
