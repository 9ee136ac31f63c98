use Rattle.vba_values.specs.declared.types.OpKind.TheVariants as op
use Rattle.bound_project.specs.View.{declared_view}
use Rattle.static_rules.specs.Broken.{double_at, step_broken}
use Rattle.static_rules.proofs.Steps.{noted_twice}
use Rattle.static_rules.proofs.doubles.note_loop.Goals as goal

pub returns : goal.returns
returns c =
    let of = declared_view c.args.counter in
    let end = double_at c.args.last_at op.Le of (declared_view c.args.last) in
    let sum = step_broken of (declared_view c.args.step) c.args.step_at in
    noted_twice c.args.least.now c.note_double.new.least c.note_step.new.least end sum c.note_double.ensures c.note_step.ensures
