use Rattle.std.proofs.Common.{◌≡◌, ◌++◌, length, map}
use Rattle.vba_module.specs.Headers.{all_of, items_of}
use Rattle.vba_tree.specs.View.{listed_view, constant_view}
use Rattle.declared_names.specs.View.{entry_view}
use Rattle.declared_names.specs.Entries.{constant_entries}
use Rattle.declared_names.proofs.pushing.push_constants.Given as goal

abbrev pub invariant-constants : goal.invariant-constants
invariant-constants l =
    map entry_view l.entries.items ++ constant_entries l.access (items_of (map (λ next. (next.mark, constant_view next.item)) l.left))
    ≡ map entry_view l.fn.entries.items ++ constant_entries l.access (all_of (listed_view constant_view l.constants.constants))

abbrev pub decreases-constants : goal.decreases-constants
decreases-constants l = length l.left
