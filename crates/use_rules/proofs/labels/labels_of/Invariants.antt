use Rattle.std.proofs.Common.{◌≡◌, ◌++◌, drop, map}
use Rattle.declared_names.specs.binder.specs.Violations.{labels_in}
use Rattle.declared_names.specs.module_parts.specs.View.{parts_view}
use Rattle.use_rules.proofs.labels.labels_of.Given as goal

abbrev pub invariant-loop-part : goal.invariant-loop-part
invariant-loop-part l =
    map (λ label. label.now) l.labels.items ++ labels_in (parts_view (drop l.part-index l.parts)) ≡ labels_in (parts_view l.parts)
