use Rattle.signature_rules.proofs.Placed.{module_placed}
use Rattle.signature_rules.proofs.handlers.class_differs.Goals as goal

pub space_differs-requires-clause-placed : goal.space_differs-requires-clause-placed
space_differs-requires-clause-placed c =
    module_placed c.args.scope.spaces.now c.loop-space.space-index c.space-item.result c.requires.placed.numbered c.loop-space-test.true c.space-item.is
