use Rattle.bound_declarations.specs.constant_values.specs.declared_names.specs.View.{entry_view, scope_view}
use Rattle.signature_rules.proofs.Placed.{item_noted}
use Rattle.signature_rules.specs.Signatures.{wrong_handler}
use Rattle.signature_rules.proofs.handlers.note_handlers.Goals as goal

pub loop-entry-preserved : goal.loop-entry-preserved
loop-entry-preserved c =
    item_noted 32 (wrong_handler (scope_view c.args.scope)) entry_view c.loop-entry.least c.note_handler.new.least _
    c.args.entries.now c.loop-entry.entry-index c.entry-item.result c.loop-entry-test.true c.entry-item.is c.in_ok-note_handler.ensures c.loop-entry.invariant
