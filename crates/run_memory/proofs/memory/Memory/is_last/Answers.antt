use Rattle.std.proofs.Common.{ap, sym, ◌∙◌}
use Rattle.std.specs.Prelude.{not}
use Rattle.run_memory.specs.View.{memory_view}
use Rattle.run_memory.proofs.Referred.{last}
use Rattle.run_memory.proofs.memory.Memory.is_last.Goals as goal

pub returns : goal.returns
returns c = ap not c.is_referred.ensures ∙ sym (last (memory_view c.args.self.now) c.args.object)
