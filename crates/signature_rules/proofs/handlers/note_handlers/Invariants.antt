use Rattle.std.proofs.Common.{◌≡◌, drop, map}
use Rattle.std.specs.Prelude.{flat_map}
use Rattle.bound_declarations.specs.constant_values.specs.declared_names.specs.View.{entry_view, scope_view}
use Rattle.signature_rules.specs.Signatures.{wrong_handler}
use Rattle.use_rules.specs.Found.{noted}
use Rattle.signature_rules.proofs.handlers.note_handlers.Given as goal

abbrev pub invariant-loop-entry : goal.invariant-loop-entry
invariant-loop-entry l =
    noted 32 l.least (flat_map (wrong_handler (scope_view l.scope)) (map entry_view (drop l.entry-index l.entries)))
    ≡ noted 32 l.fn.least (flat_map (wrong_handler (scope_view l.scope)) (map entry_view l.entries))
