use Rattle.std.proofs.Common.{◌≡◌, take, map}
use Rattle.vba_meaning.specs.Paths.{plain_steps}
use Rattle.run_memory.specs.View.{step_view}
use Rattle.run_memory.proofs.path.Path.plain_steps.Given as goal

abbrev pub invariant-loop-step : goal.invariant-loop-step
invariant-loop-step l = l.steps.items ≡ plain_steps (map step_view (take l.step-index l.step-items))
