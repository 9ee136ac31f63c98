use Rattle.std.proofs.Common.{◌≡◌, map, drop}
use Rattle.std.specs.Prelude.{option_map}
use Rattle.run_memory.specs.View.{object_view}
use Rattle.run_events.specs.Sought.{any_linked}
use Rattle.run_events.proofs.links.any_linked.Given as goal

abbrev pub invariant-loop-object : goal.invariant-loop-object
invariant-loop-object l = any_linked l.source (map (option_map object_view) (drop l.object-index l.objects)) ≡ any_linked l.source (map (option_map object_view) l.objects)
