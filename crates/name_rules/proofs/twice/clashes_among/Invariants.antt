use Rattle.std.proofs.Common.{◌≡◌, drop, map}
use Rattle.std.specs.List.{list_any}
use Rattle.constant_values.specs.declared_names.specs.binder.specs.Violations.{clashes}
use Rattle.constant_values.specs.declared_names.specs.View.{entry_view}
use Rattle.name_rules.proofs.twice.clashes_among.Given as goal

abbrev pub invariant-loop-other : goal.invariant-loop-other
invariant-loop-other l =
    list_any (clashes (entry_view l.entry)) (map entry_view (drop l.other-index l.others)) ≡ list_any (clashes (entry_view l.entry)) (map entry_view l.others)
