use Rattle.std.proofs.Common.{refl}
use Rattle.bound_operands.proofs.leading.led_item.Goals as goal

pub returns-in-Type : goal.returns-in-Type
returns-in-Type c = record { is = refl; leads = c.in-Type.ensures }

pub returns-in-Breaks : goal.returns-in-Breaks
returns-in-Breaks c = record { rule = c.in-Breaks.rule; is = refl; breaks_it = c.in-Breaks.ensures }
