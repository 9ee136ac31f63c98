use Rattle.std.proofs.Common.{List, map, sym, ap, ◌∙◌}
use Rattle.std.specs.Prelude.{Option, None, option_map, slice_index_or}
use Rattle.run_memory.specs.declared.memory.Object.{Object}
use Rattle.run_memory.specs.View.{memory_view, object_view}
use Rattle.run_events.specs.Sought.{stands_in}
use Rattle.run_events.proofs.Standing.{stands_there}
use Rattle.run_events.proofs.links.stands.Goals as goal

pub returns : goal.returns
returns c =
    let l = c.args.link.now in
    c.stands_at.ensures
    ∙ ap (λ (bs : List (Option Object)). stands_in l (slice_index_or (map (option_map object_view) bs) l.sink.0 None)) c.as_slice.ensures.value
    ∙ sym (stands_there l (memory_view c.args.memory.now))
