use Rattle.constant_values.specs.declared_names.specs.binder.specs.Declarations as plain
use Rattle.constant_values.specs.declared_names.specs.binder.specs.Violations.{own_faults}
use Rattle.constant_values.specs.declared_names.specs.View.{local_view, scope_view}
use Rattle.name_rules.proofs.Gathered.{item_noted}
use Rattle.name_rules.proofs.constants.note_locals.Goals as goal

pub loop-local-preserved : goal.loop-local-preserved
loop-local-preserved c =
    item_noted 20 (λ (m : plain.Local). own_faults (scope_view c.args.constants.scope) m.own) local_view c.loop-local.least c.note_own.new.least _
    c.args.locals.now c.loop-local.local-index c.local-item.result c.loop-local-test.true c.local-item.is c.in_ok-note_own.ensures c.loop-local.invariant
