use Rattle.std.proofs.Common.{◌∙◌}
use Rattle.std.specs.Prelude.{option_map}
use Rattle.vba_values.specs.View.{view}
use Rattle.run_memory.specs.View.{memory_view}
use Rattle.run_memory.proofs.Exchanged.{local_exchanged}
use Rattle.run_memory.proofs.memory.Memory.exchange.Goals as goal

pub returns-in-Frame-clause-new : goal.returns-in-Frame-clause-new
returns-in-Frame-clause-new c =
    rw c.in-Frame.is
    (c.exchange_local.ensures.new
    ∙ local_exchanged (memory_view c.args.self.now) c.in-Frame.frame c.in-Frame.variable (option_map view c.exchange_local.result) (view c.args.new))
