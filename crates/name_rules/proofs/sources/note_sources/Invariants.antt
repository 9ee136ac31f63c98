use Rattle.std.proofs.Common.{◌≡◌, drop, map}
use Rattle.std.specs.Prelude.{flat_map}
use Rattle.constant_values.specs.declared_names.specs.binder.specs.Violations.{entry_sources}
use Rattle.constant_values.specs.declared_names.specs.View.{entry_view, scope_view}
use Rattle.use_rules.specs.Found.{noted}
use Rattle.name_rules.proofs.sources.note_sources.Given as goal

abbrev pub invariant-loop-entry : goal.invariant-loop-entry
invariant-loop-entry l =
    noted 22 l.least (flat_map (entry_sources (scope_view l.scope)) (map entry_view (drop l.entry-index l.entries)))
    ≡ noted 22 l.fn.least (flat_map (entry_sources (scope_view l.scope)) (map entry_view l.entries))
