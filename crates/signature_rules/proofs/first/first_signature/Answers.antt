use Rattle.signature_rules.proofs.Placed.{module_placed}
use Rattle.signature_rules.proofs.first.first_signature.Goals as goal

pub signature_at-requires-clause-placed : goal.signature_at-requires-clause-placed
signature_at-requires-clause-placed c = module_placed c.args.spaces.now c.loop-space.space-index c.space-item.result c.requires c.loop-space-test.true c.space-item.is
