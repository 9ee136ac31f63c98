use Rattle.std.proofs.Common.{map, ap, ◌∙◌}
use Rattle.vba_meaning.specs.Effects.{slot_values}
use Rattle.run_memory.specs.View.{slot_view}
use Rattle.pcode_vm.proofs.machine.Machine.use_named.Goals as goal

pub returns : goal.returns
returns c = rw (ap (λ l. slot_values (map slot_view l)) c.as_slice.ensures.value ∙ c.in_ok-ordered.ensures) at c.use_member.ensures
