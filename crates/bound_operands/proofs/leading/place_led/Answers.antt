use Rattle.bound_operands.proofs.ElementEnds.{ends_place_led}
use Rattle.bound_operands.proofs.leading.place_led.Goals as goal

pub returns : goal.returns
returns c = ends_place_led c.args.indexed c.args.count c.requires.led c.requires.some c.if-arguments-count.false
