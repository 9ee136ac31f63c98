use Rattle.std.proofs.Common.{List, subst}
use Rattle.vba_values.specs.View.{view}
use Rattle.bound_project.specs.View.{declarations_view}
use Rattle.vba_meaning.specs.Defaults.{Task, followed, read_variable, tasks_next}
use Rattle.vba_meaning.specs.LateBound.{argument_tasks}
use Rattle.run_memory.specs.View.{memory_view, path_view}
use Rattle.run_host.specs.Tells.{Tells}
use Rattle.run_host.specs.View.{told_view}
use Rattle.run_host.proofs.Telling.{tells_fault, then_refused, then_tells}
use Rattle.run_defaults.specs.View.{next_view}
use Rattle.pcode.specs.View.{use_view}
use Rattle.run_late.specs.View.{given_view, names_view}
use Rattle.run_late.proofs.binding.place_copied.Goals as goal

pub returns-in_err-next : goal.returns-in_err-next
returns-in_err-next c =
    let d = declarations_view c.args.declared.now in
    let m0 = memory_view c.args.memory.now in
    let old = told_view c.args.told.now in
    let new = told_view c.read_variable.new.told in
    let m = memory_view c.read_variable.new.memory in
    let ts : List Task = argument_tasks d (use_view c.args.aim) c.args.sought.name.now (names_view c.args.sought) (given_view c.args.sought) c.args.argument (view c.args.base.now) m0 in
    tells_fault next_view c.from_residual-in_err-next.result c.in_err-next.field-0.0 old new m _ c.from_residual-in_err-next.ensures.1
    (then_refused c.in_err-next.field-0.0 old new m (read_variable d (path_view c.args.path) m0) (λ n m1. followed ts (λ w m2. tasks_next d ts w m2) n m1) c.in_err-next.ensures)

pub returns : goal.returns
returns c =
    let d = declarations_view c.args.declared.now in
    let m0 = memory_view c.args.memory.now in
    let old = told_view c.args.told.now in
    let mid = told_view c.read_variable.new.told in
    let new = told_view c.followed.new.told in
    let m = memory_view c.read_variable.new.memory in
    let n = memory_view c.followed.new.memory in
    let next = next_view c.in_ok-next.next in
    let ts : List Task = argument_tasks d (use_view c.args.aim) c.args.sought.name.now (names_view c.args.sought) (given_view c.args.sought) c.args.argument (view c.args.base.now) m0 in
    let P : List Task → Type 0 = λ (l : List Task). Tells next_view c.followed.result mid new n (followed l (λ w m2. tasks_next d l w m2) next m) in
    then_tells next_view c.followed.result old mid new (read_variable d (path_view c.args.path) m0) (λ n m1. followed ts (λ w m2. tasks_next d ts w m2) n m1) next m n
    c.in_ok-next.ensures (subst P c.in_ok-tasks.ensures c.followed.ensures)
