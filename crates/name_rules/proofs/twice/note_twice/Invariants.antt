use Rattle.std.proofs.Common.{◌≡◌, [], drop, take, map, reverse}
use Rattle.constant_values.specs.declared_names.specs.binder.specs.Violations.{later, same_name, place_of_name}
use Rattle.use_rules.specs.Found.{noted}
use Rattle.name_rules.proofs.twice.note_twice.Given as goal

abbrev pub invariant-loop-number : goal.invariant-loop-number
invariant-loop-number l =
    noted 15 l.least (later same_name place_of_name (reverse (map (λ x. x.now) (take l.number l.names))) (map (λ x. x.now) (drop l.number l.names)))
    ≡ noted 15 l.fn.least (later same_name place_of_name [] (map (λ x. x.now) l.names))
