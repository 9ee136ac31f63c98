-- Serves the code: the plain uses of objects that those in memory stand for. Of tasks the last is the first.
use Rattle.std.specs.Prelude.{List, map, reverse}
use Rattle.vba_values.specs.View.{view}
use Rattle.bound_project.specs.View.{declared_view}
use Rattle.vba_meaning.specs.Effects.{slot_values}
use Rattle.vba_meaning.specs.Defaults as plain
use Rattle.run_memory.specs.View.{path_view, slot_view}
use Rattle.run_defaults.specs.declared.spot.Spot.{Spot}
use Rattle.run_defaults.specs.declared.spot.Spot.TheVariants as spot
use Rattle.run_defaults.specs.declared.task.Task.{Task}
use Rattle.run_defaults.specs.declared.task.Task.TheVariants as task
use Rattle.run_defaults.specs.declared.next.Next.{Next}
use Rattle.run_defaults.specs.declared.next.Next.TheVariants as next

abbrev pub spot_view : Spot → plain.Spot
spot_view (spot.Variable q) = plain.in_variable (path_view q)
spot_view (spot.Let p me xs) = plain.by_let p (view me) (map slot_view xs.items)
spot_view (spot.Range w) = plain.in_range (view w)
spot_view (spot.Member name xs base begun) = plain.in_member name (slot_values (map slot_view xs.items)) (view base) (view begun)

abbrev pub task_view : Task → plain.Task
task_view task.Operand = plain.as_operand
task_view task.NoObject = plain.no_object
task_view task.GiveWay = plain.give_way
task_view task.Walked = plain.walked
task_view (task.FitTo of) = plain.fit_to (declared_view of)
task_view (task.IndexBy k xs) = plain.index_by k (slot_values (map slot_view xs.items))
task_view (task.Write k v) = plain.write k (view v)
task_view (task.LetItem k xs v) = plain.let_item k (slot_values (map slot_view xs.items)) (view v)
task_view (task.SetItem k xs v) = plain.set_item k (slot_values (map slot_view xs.items)) (view v)
task_view (task.PutIn s) = plain.put_in (spot_view s.value)
task_view (task.ReadMade q v) = plain.read_made (path_view q.value) (view v)

abbrev pub tasks_view : List Task → List plain.Task
tasks_view ts = map task_view (reverse ts)

abbrev pub next_view : Next → plain.Next
next_view (next.Gives v) = plain.gives (view v)
next_view (next.Calls p me xs ts) = plain.then_call p (view me) (map slot_view xs.items) (tasks_view ts.items)
