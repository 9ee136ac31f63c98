use Rattle.std.proofs.Common.{◌≡◌, ◌≤◌, length, map, drop}
use Rattle.std.specs.Prelude.{option_map}
use Rattle.vba_events.specs.Links.{links_of}
use Rattle.vba_events.specs.Order.{in_order}
use Rattle.vba_meaning.specs.Events.{links_from}
use Rattle.run_memory.specs.View.{object_view}
use Rattle.run_events.proofs.links.sinks.Given as goal

abbrev pub invariant-loop-number : goal.invariant-loop-number
invariant-loop-number l = record {
  within : l.number ≤ length l.memory.objects.items;
  found : l.links.items ≡ in_order (links_of l.source (links_from l.number (drop l.number (map (option_map object_view) l.memory.objects.items))));
}

abbrev pub decreases-loop-number : goal.decreases-loop-number
decreases-loop-number l = l.number
