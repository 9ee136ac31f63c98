use Rattle.std.proofs.Common.{arith}
use Rattle.run_collections.specs.Parts.{without_item}
use Rattle.run_collections.proofs.Changed.{changed_at}
use Rattle.run_collections.proofs.changing.remove_item.Goals as goal

pub returns-in_ok-remove_from_object : goal.returns-in_ok-remove_from_object
returns-in_ok-remove_from_object c =
    changed_at (without_item c.args.place) c.args.objects.now.items c.args.number c.remove_from_object.new.object c.index_mut.result.now
    (omega arith) (rw c.index_mut.ensures.value at c.in_ok-remove_from_object.ensures)
