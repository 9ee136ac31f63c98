use Rattle.std.proofs.Common.{◌≡◌, drop, map}
use Rattle.std.specs.Prelude.{flat_map}
use Rattle.constant_values.specs.declared_names.specs.binder.specs.Declarations.{Written}
use Rattle.constant_values.specs.declared_names.specs.binder.specs.LeftOut.{procedure_left_out}
use Rattle.constant_values.specs.declared_names.specs.binder.specs.Names.{scope_in}
use Rattle.constant_values.specs.declared_names.specs.binder.specs.Violations.{procedures_in}
use Rattle.constant_values.specs.declared_names.specs.View.{entry_view, scope_view}
use Rattle.use_rules.specs.Found.{noted}
use Rattle.name_rules.proofs.left_out.note_procedures.Given as goal

abbrev pub invariant-loop-entry : goal.invariant-loop-entry
invariant-loop-entry l =
    noted 23 l.least (flat_map (λ (p : Written). procedure_left_out (scope_in (scope_view l.scope) p) p) (procedures_in (map entry_view (drop l.entry-index l.entries))))
    ≡ noted 23 l.fn.least (flat_map (λ (p : Written). procedure_left_out (scope_in (scope_view l.scope) p) p) (procedures_in (map entry_view l.entries)))
