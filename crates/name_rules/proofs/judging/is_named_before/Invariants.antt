use Rattle.std.proofs.Common.{◌≡◌, drop, map}
use Rattle.std.specs.Prelude.{bytes_eq}
use Rattle.std.specs.List.{list_any}
use Rattle.constant_values.specs.declared_names.specs.binder.specs.Scopes as plain
use Rattle.constant_values.specs.declared_names.specs.binder.specs.Violations.{named_before}
use Rattle.constant_values.specs.declared_names.specs.View.{space_view}
use Rattle.name_rules.proofs.judging.is_named_before.Given as goal

abbrev pub invariant-loop-space : goal.invariant-loop-space
invariant-loop-space l =
    list_any (λ (o : plain.Space). bytes_eq o.name.fold (space_view l.here).name.fold) (named_before (map space_view (drop l.space-index l.spaces)) (space_view l.here))
    ≡ list_any (λ (o : plain.Space). bytes_eq o.name.fold (space_view l.here).name.fold) (named_before (map space_view l.spaces) (space_view l.here))
