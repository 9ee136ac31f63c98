use Rattle.std.proofs.Common.{◌≡◌, drop, map}
use Rattle.std.specs.List.{list_any}
use Rattle.constant_values.specs.declared_names.specs.binder.specs.Violations.{same_name}
use Rattle.name_rules.proofs.twice.is_among.Given as goal

abbrev pub invariant-loop-other : goal.invariant-loop-other
invariant-loop-other l =
    list_any (same_name l.name) (map (λ x. x.now) (drop l.other-index l.others)) ≡ list_any (same_name l.name) (map (λ x. x.now) l.others)
