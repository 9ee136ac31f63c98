use Rattle.std.proofs.Common.{◌≡◌, drop, map}
use Rattle.std.specs.Prelude.{flat_map}
use Rattle.constant_values.specs.declared_names.specs.binder.specs.Declarations as plain
use Rattle.constant_values.specs.declared_names.specs.binder.specs.Violations.{own_faults}
use Rattle.constant_values.specs.declared_names.specs.View.{local_view, scope_view}
use Rattle.use_rules.specs.Found.{noted}
use Rattle.name_rules.proofs.constants.note_locals.Given as goal

abbrev pub invariant-loop-local : goal.invariant-loop-local
invariant-loop-local l =
    noted 20 l.least (flat_map (λ (m : plain.Local). own_faults (scope_view l.constants.scope) m.own) (map local_view (drop l.local-index l.locals)))
    ≡ noted 20 l.fn.least (flat_map (λ (m : plain.Local). own_faults (scope_view l.constants.scope) m.own) (map local_view l.locals))
