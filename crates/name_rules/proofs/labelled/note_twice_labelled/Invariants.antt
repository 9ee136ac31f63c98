use Rattle.std.proofs.Common.{◌≡◌, [], drop, take, map, reverse}
use Rattle.constant_values.specs.declared_names.specs.binder.specs.Violations.{later, same_label, place_of_label}
use Rattle.use_rules.specs.Found.{noted}
use Rattle.name_rules.proofs.labelled.note_twice_labelled.Given as goal

abbrev pub invariant-loop-number : goal.invariant-loop-number
invariant-loop-number l =
    noted 19 l.least (later same_label place_of_label (reverse (map (λ label. label.now) (take l.number l.labels))) (map (λ label. label.now) (drop l.number l.labels)))
    ≡ noted 19 l.fn.least (later same_label place_of_label [] (map (λ label. label.now) l.labels))
