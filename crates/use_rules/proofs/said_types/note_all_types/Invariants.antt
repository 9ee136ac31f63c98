use Rattle.std.proofs.Common.{◌≡◌, drop}
use Rattle.std.specs.Prelude.{flat_map}
use Rattle.declared_names.specs.binder.specs.Violations.{types_said}
use Rattle.declared_names.specs.View.{scope_view}
use Rattle.said_parts.specs.View.{all_said}
use Rattle.use_rules.specs.Found.{noted}
use Rattle.use_rules.proofs.said_types.note_all_types.Given as goal

abbrev pub invariant-loop-one : goal.invariant-loop-one
invariant-loop-one l =
    noted 16 l.least (flat_map (types_said (scope_view l.scope)) (all_said (drop l.one-index l.said)))
    ≡ noted 16 l.fn.least (flat_map (types_said (scope_view l.scope)) (all_said l.said))
