use Rattle.std.proofs.Common.{◌≡◌, ◌++◌, length, map}
use Rattle.vba_module.specs.Headers.{all_of, items_of}
use Rattle.vba_tree.specs.View.{listed_view, variable_view}
use Rattle.declared_names.specs.View.{entry_view}
use Rattle.declared_names.specs.Entries.{variable_entries}
use Rattle.declared_names.proofs.pushing.push_variables.Given as goal

abbrev pub invariant-variables : goal.invariant-variables
invariant-variables l =
    map entry_view l.entries.items ++ variable_entries l.word (items_of (map (λ next. (next.mark, variable_view next.item)) l.left))
    ≡ map entry_view l.fn.entries.items ++ variable_entries l.word (all_of (listed_view variable_view l.variables.variables))

abbrev pub decreases-variables : goal.decreases-variables
decreases-variables l = length l.left
