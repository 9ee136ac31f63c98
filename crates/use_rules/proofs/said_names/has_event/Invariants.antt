use Rattle.std.proofs.Common.{◌≡◌, drop, map}
use Rattle.std.specs.List.{list_any}
use Rattle.declared_names.specs.binder.specs.Violations as violations
use Rattle.declared_names.specs.View.{entry_view}
use Rattle.use_rules.proofs.said_names.has_event.Given as goal

abbrev pub invariant-loop-entry : goal.invariant-loop-entry
invariant-loop-entry l =
    list_any (violations.is_event l.name) (map entry_view (drop l.entry-index l.entries)) ≡ list_any (violations.is_event l.name) (map entry_view l.entries)
