use Rattle.std.proofs.Common.{ap, sym}
use Rattle.vba_values.specs.View.{view}
use Rattle.vba_meaning.specs.Effects.{Fine, done}
use Rattle.vba_meaning.specs.Events.{noted}
use Rattle.vba_meaning.specs.Host.{value_put}
use Rattle.run_memory.specs.View.{memory_view}
use Rattle.run_host.specs.Members.{put_noted}
use Rattle.run_host.specs.View.{told_view}
use Rattle.run_host.proofs.Telling.{quiet_fine, tells_fault, then_all, then_refused}
use Rattle.run_host.proofs.writing.put_noted.Goals as goal

pub returns-in_err-value_put : goal.returns-in_err-value_put
returns-in_err-value_put c =
    tells_fault (λ (d : Unit {0}). d) c.from_residual.result c.in_err-value_put.field-0.0 (told_view c.args.told.now) (told_view c.value_put.new.told) (memory_view c.value_put.new.memory)
    (put_noted c.args.area (view c.args.value.now) (memory_view c.args.memory.now)) c.from_residual.ensures.1
    (then_refused c.in_err-value_put.field-0.0 (told_view c.args.told.now) (told_view c.value_put.new.told) (memory_view c.value_put.new.memory)
    (value_put c.args.area (view c.args.value.now) (memory_view c.args.memory.now)) (λ u m1. done (noted c.args.area m1)) c.in_err-value_put.ensures)

pub returns : goal.returns
returns c =
    let m = memory_view c.value_put.new.memory in
    let n = memory_view c.noted.new.memory in
    then_all (told_view c.args.told.now) (told_view c.value_put.new.told) (told_view c.value_put.new.told) (value_put c.args.area (view c.args.value.now) (memory_view c.args.memory.now))
    (λ u m1. done (noted c.args.area m1)) tt m (Fine tt n) c.in_ok-value_put.ensures
    (quiet_fine (told_view c.value_put.new.told) (done (noted c.args.area m)) tt n (ap (λ k. Fine tt k) (sym c.noted.ensures)))
