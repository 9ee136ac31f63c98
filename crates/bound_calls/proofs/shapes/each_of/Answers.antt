use Rattle.bound_calls.proofs.ShapeSteps.{each_next}
use Rattle.std.proofs.Common.{refl}
use Rattle.bound_calls.proofs.shapes.each_of.Goals as goal

pub loop-parameter-preserved : goal.loop-parameter-preserved
loop-parameter-preserved c =
    each_next c.args.parameters.now c.loop-parameter.parameter-index c.parameter-item.result c.loop-parameter.each.items c.push.new.self.items _ c.loop-parameter-test.true c.parameter-item.is refl c.in_ok-push.ensures.items c.loop-parameter.invariant
