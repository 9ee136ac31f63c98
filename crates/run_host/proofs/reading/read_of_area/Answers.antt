use Rattle.run_memory.specs.View.{memory_view}
use Rattle.run_host.proofs.reading.read_of_area.Goals as goal

pub returns-in-1 : goal.returns-in-1
returns-in-1 c = λ d. rw c.in-1.is (c.address_of.ensures (memory_view c.args.memory.now))
