use Rattle.std.proofs.Common.{sym, ◌∙◌}
use Rattle.bound_operands.proofs.indexing.add_index.Goals as goal

pub add_along-requires-clause-along : goal.add_along-requires-clause-along
add_along-requires-clause-along c = sym c.is_along.ensures ∙ c.if-is_along.true

pub add_led-requires-clause-led : goal.add_led-requires-clause-led
add_led-requires-clause-led c = sym c.is_led.ensures ∙ c.if-is_led.true

pub add_number-requires-clause-plain : goal.add_number-requires-clause-plain
add_number-requires-clause-plain c = sym c.is_along.ensures ∙ c.if-is_along.false

pub add_number-requires-clause-unled : goal.add_number-requires-clause-unled
add_number-requires-clause-unled c = sym c.is_led.ensures ∙ c.if-is_led.false
