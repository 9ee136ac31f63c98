use Rattle.std.proofs.Common.{ap, ◌∙◌, arith}
use Rattle.run_memory.specs.View.{memory_view}
use Rattle.run_collections.specs.Parts.{objects_at}
use Rattle.run_collections.proofs.Changed.{taken_out_is}
use Rattle.run_collections.proofs.removing.take_out.Goals as goal

pub returns : goal.returns
returns c =
    let mid = memory_view c.waits.new.self in
    taken_out_is c.args.number c.args.place c.len-count.result c.in_ok-objects.objects.items (memory_view c.args.memory.now) mid _
    (omega arith) (c.in_ok-objects.ensures ∙ ap (objects_at c.args.place) c.items_of.ensures) c.in_ok-waits.ensures (ap (λ bs. record mid { objects = bs }) c.in_ok-remove_item.ensures)
