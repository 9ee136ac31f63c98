-- Serves the code: the plain events that what is told stands for.
use Rattle.std.specs.Prelude.{List, map}
use Rattle.vba_meaning.specs.Effects as effects
use Rattle.run_host.specs.declared.events.Event.{Event}
use Rattle.run_host.specs.declared.events.Event.TheVariants as event
use Rattle.run_host.specs.declared.events.Told.{Told}

abbrev pub event_view : Event → effects.Event
event_view (event.Printed text ends) = effects.Printed text ends
event_view (event.Cell sheet row column value) = effects.Cell sheet row column value
event_view (event.Raised n) = effects.Raised n
event_view (event.Init class number) = effects.Init class number
event_view (event.Term class number) = effects.Term class number

abbrev pub told_view : Told → List effects.Event
told_view t = map event_view t.events.items
