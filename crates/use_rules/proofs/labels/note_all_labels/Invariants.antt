use Rattle.std.proofs.Common.{◌≡◌, drop, map}
use Rattle.std.specs.Prelude.{flat_map}
use Rattle.declared_names.specs.binder.specs.Violations.{label_said}
use Rattle.said_parts.specs.View.{all_said}
use Rattle.use_rules.specs.Found.{noted}
use Rattle.use_rules.proofs.labels.note_all_labels.Given as goal

abbrev pub invariant-loop-one : goal.invariant-loop-one
invariant-loop-one l =
    noted 18 l.least (flat_map (label_said (map (λ label. label.now) l.labels)) (all_said (drop l.one-index l.said)))
    ≡ noted 18 l.fn.least (flat_map (label_said (map (λ label. label.now) l.labels)) (all_said l.said))
