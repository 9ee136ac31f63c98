use Rattle.std.proofs.Common.{◌≡◌, length, reverse}
use Rattle.bound_project.specs.View.{declarations_view}
use Rattle.run_memory.specs.View.{memory_view}
use Rattle.run_events.specs.Sought.{due_from}
use Rattle.run_events.proofs.handlers.next_due.Given as goal

abbrev pub invariant-loop-link : goal.invariant-loop-link
invariant-loop-link l =
    due_from (declarations_view l.declared) l.event (reverse l.links.items) (memory_view l.memory)
    ≡ due_from (declarations_view l.declared) l.event (reverse l.initial.links.items) (memory_view l.memory)

abbrev pub decreases-loop-link : goal.decreases-loop-link
decreases-loop-link l = length l.links.items
