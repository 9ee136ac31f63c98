use Rattle.std.proofs.Common.{◌≡◌, drop, map}
use Rattle.std.specs.List.{list_any}
use Rattle.declared_names.specs.binder.specs.Violations.{same_label_name}
use Rattle.use_rules.proofs.labels.is_there.Given as goal

abbrev pub invariant-loop-label : goal.invariant-loop-label
invariant-loop-label l =
    list_any (same_label_name l.target) (map (λ label. label.now) (drop l.label-index l.labels)) ≡ list_any (same_label_name l.target) (map (λ label. label.now) l.labels)
