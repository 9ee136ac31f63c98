use Rattle.std.proofs.Common.{◌≡◌, ◌+◌, map, drop}
use Rattle.binder.specs.Types.{counted}
use Rattle.declared_names.specs.Numbers.{is_counted}
use Rattle.declared_names.specs.View.{entry_view}
use Rattle.declared_names.proofs.numbers.count_of.Given as goal

abbrev pub invariant-loop-entry : goal.invariant-loop-entry
invariant-loop-entry l =
    l.count + counted (is_counted l.which) (map entry_view (drop l.entry-index l.entries)) ≡ counted (is_counted l.which) (map entry_view l.entries)
