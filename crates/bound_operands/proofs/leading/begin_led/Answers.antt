use Rattle.std.proofs.Common.{refl}
use Rattle.bound_operands.proofs.leading.begin_led.Goals as goal

pub returns : goal.returns
returns c = record { is = refl; pushed = c.in_ok-push_node.ensures }
