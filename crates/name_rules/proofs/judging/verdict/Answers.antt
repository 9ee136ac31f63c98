use Rattle.std.proofs.Common.{map}
use Rattle.constant_values.proofs.Looked.{placed_at}
use Rattle.constant_values.specs.declared_names.specs.View.{space_view}
use Rattle.name_rules.proofs.Judged.{get_mapped}
use Rattle.name_rules.proofs.judging.verdict.Goals as goal

pub refusal_at-requires-clause-placed : goal.refusal_at-requires-clause-placed
refusal_at-requires-clause-placed c = record {
  numbered = c.requires;
  here =
      placed_at (map space_view c.args.spaces.now) c.loop-space.space-index (space_view c.space-item.result) c.requires
      (get_mapped space_view c.args.spaces.now c.loop-space.space-index c.space-item.result c.loop-space-test.true c.space-item.is);
}
