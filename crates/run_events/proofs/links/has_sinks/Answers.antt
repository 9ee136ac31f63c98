use Rattle.std.proofs.Common.{List, map, sym, ap, ◌∙◌}
use Rattle.std.specs.Prelude.{Option, option_map}
use Rattle.run_memory.specs.declared.memory.Object.{Object}
use Rattle.run_memory.specs.View.{memory_view, object_view}
use Rattle.run_events.specs.Sought.{any_linked}
use Rattle.run_events.proofs.Ordered.{has_some}
use Rattle.run_events.proofs.links.has_sinks.Goals as goal

pub returns : goal.returns
returns c =
    c.any_linked.ensures
    ∙ ap (λ (bs : List (Option Object)). any_linked c.args.source (map (option_map object_view) bs)) c.as_slice.ensures.value
    ∙ sym (has_some c.args.source (memory_view c.args.memory.now))
