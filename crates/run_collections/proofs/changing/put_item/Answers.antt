use Rattle.std.proofs.Common.{arith}
use Rattle.vba_values.specs.View.{view}
use Rattle.run_collections.specs.Parts.{with_item}
use Rattle.run_collections.proofs.Changed.{changed_at}
use Rattle.run_collections.proofs.changing.put_item.Goals as goal

pub returns-in_ok-put_in_object : goal.returns-in_ok-put_in_object
returns-in_ok-put_in_object c =
    changed_at (with_item c.args.place (view c.args.item) c.args.key) c.args.objects.now.items c.args.number c.put_in_object.new.object c.index_mut.result.now
    (omega arith) (rw c.index_mut.ensures.value at c.in_ok-put_in_object.ensures)
