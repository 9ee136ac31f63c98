use Rattle.std.proofs.Common.{◌≡◌, drop, map}
use Rattle.std.specs.Prelude.{flat_map}
use Rattle.constant_values.specs.declared_names.specs.binder.specs.Violations.{entry_faults}
use Rattle.constant_values.specs.declared_names.specs.View.{entry_view, scope_view}
use Rattle.use_rules.specs.Found.{noted}
use Rattle.name_rules.proofs.constants.note_entries.Given as goal

abbrev pub invariant-loop-entry : goal.invariant-loop-entry
invariant-loop-entry l =
    noted 20 l.least (flat_map (entry_faults (scope_view l.constants.scope)) (map entry_view (drop l.entry-index l.entries)))
    ≡ noted 20 l.fn.least (flat_map (entry_faults (scope_view l.constants.scope)) (map entry_view l.entries))
