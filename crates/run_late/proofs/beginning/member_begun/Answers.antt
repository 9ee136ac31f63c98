use Rattle.std.proofs.Common.{refl}
use Rattle.vba_values.specs.View.{view}
use Rattle.bound_project.specs.View.{declarations_view}
use Rattle.vba_meaning.specs.Effects.{Fine}
use Rattle.vba_meaning.specs.Host.{member_there}
use Rattle.vba_meaning.specs.Defaults.{gives}
use Rattle.run_memory.specs.View.{memory_view}
use Rattle.run_host.specs.View.{told_view}
use Rattle.run_host.proofs.Telling.{quiet_fine, tells_fault, then_all, then_refused}
use Rattle.run_defaults.specs.View.{next_view}
use Rattle.run_late.proofs.beginning.member_begun.Goals as goal

pub returns-in_err-begun : goal.returns-in_err-begun
returns-in_err-begun c =
    let old = told_view c.args.told.now in
    let new = told_view c.member_there.new.told in
    let m = memory_view c.member_there.new.memory in
    tells_fault next_view c.from_residual.result c.in_err-begun.field-0.0 old new m _ c.from_residual.ensures.1
    (then_refused c.in_err-begun.field-0.0 old new m (member_there (declarations_view c.args.declared.now) c.args.name.now c.args.given (view c.args.base.now) (memory_view c.args.memory.now)) (λ v m1. Fine (gives v) m1) c.in_err-begun.ensures)

pub returns : goal.returns
returns c =
    let old = told_view c.args.told.now in
    let new = told_view c.member_there.new.told in
    let m = memory_view c.member_there.new.memory in
    let v = view c.in_ok-begun.begun in
    then_all old new new (member_there (declarations_view c.args.declared.now) c.args.name.now c.args.given (view c.args.base.now) (memory_view c.args.memory.now)) (λ w m1. Fine (gives w) m1) v m (Fine (gives v) m)
    c.in_ok-begun.ensures (quiet_fine new (Fine (gives v) m) (gives v) m refl)
