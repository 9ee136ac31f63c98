use Rattle.std.proofs.Common.{◌≡◌, drop, map}
use Rattle.std.specs.List.{list_any}
use Rattle.constant_values.specs.declared_names.specs.binder.specs.Declarations.{Entry}
use Rattle.constant_values.specs.declared_names.specs.binder.specs.Violations.{is_event_entry}
use Rattle.constant_values.specs.declared_names.specs.View.{entry_view}
use Rattle.name_rules.proofs.sources.has_event.Given as goal

abbrev pub invariant-loop-entry : goal.invariant-loop-entry
invariant-loop-entry l =
    list_any (λ (e : Entry). is_event_entry e.what) (map entry_view (drop l.entry-index l.entries)) ≡ list_any (λ (e : Entry). is_event_entry e.what) (map entry_view l.entries)
