use Rattle.std.proofs.Common.{◌≡◌, drop, map}
use Rattle.std.specs.Prelude.{flat_map}
use Rattle.constant_values.specs.declared_names.specs.binder.specs.LeftOut.{suffix_left_out}
use Rattle.use_rules.specs.Found.{noted}
use Rattle.name_rules.proofs.left_out.note_suffixes.Given as goal

abbrev pub invariant-loop-name : goal.invariant-loop-name
invariant-loop-name l =
    noted 23 l.least (flat_map suffix_left_out (map (λ x. x.now) (drop l.name-index l.names)))
    ≡ noted 23 l.fn.least (flat_map suffix_left_out (map (λ x. x.now) l.names))
