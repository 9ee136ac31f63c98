use Rattle.std.proofs.Common.{◌≡◌, length, map}
use Rattle.vba_module.specs.Headers.{all_of, items_of}
use Rattle.vba_tree.specs.View.{listed_view, variable_view}
use Rattle.bound_declarations.specs.NewWords.{any_new}
use Rattle.bound_declarations.proofs.new_words.any_new.Given as goal

abbrev pub invariant-variables : goal.invariant-variables
invariant-variables l =
    any_new (items_of (map (λ next. (next.mark, variable_view next.item)) l.left)) ≡ any_new (all_of (listed_view variable_view l.variables.variables))

abbrev pub decreases-variables : goal.decreases-variables
decreases-variables l = length l.left
