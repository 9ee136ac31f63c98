use Rattle.std.proofs.Common.{◌≡◌, drop, map}
use Rattle.constant_values.specs.declared_names.specs.binder.specs.Violations.{class_has_events}
use Rattle.constant_values.specs.declared_names.specs.View.{space_view}
use Rattle.name_rules.proofs.sources.class_has_events.Given as goal

abbrev pub invariant-loop-space : goal.invariant-loop-space
invariant-loop-space l =
    class_has_events (map space_view l.spaces) (map space_view (drop l.space-index l.spaces)) l.number ≡ class_has_events (map space_view l.spaces) (map space_view l.spaces) l.number
