use Rattle.constant_values.specs.declared_names.specs.binder.specs.Declarations.{Written}
use Rattle.constant_values.specs.declared_names.specs.binder.specs.LeftOut.{procedure_left_out}
use Rattle.constant_values.specs.declared_names.specs.binder.specs.Names.{scope_in}
use Rattle.constant_values.specs.declared_names.specs.View.{scope_view}
use Rattle.name_rules.proofs.Gathered.{procedure_noted}
use Rattle.name_rules.proofs.left_out.note_procedures.Goals as goal

pub loop-entry-preserved : goal.loop-entry-preserved
loop-entry-preserved c =
    procedure_noted 23 (λ (p : Written). procedure_left_out (scope_in (scope_view c.args.scope) p) p) c.loop-entry.least c.note_written.new.least _
    c.args.entries.now c.loop-entry.entry-index c.entry-item.result c.loop-entry-test.true c.entry-item.is c.in_ok-note_written.ensures c.loop-entry.invariant
