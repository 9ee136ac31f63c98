use Rattle.project_tables.proofs.Places.{placed_here}
use Rattle.project_tables.proofs.project_types.user_types.Goals as goal

pub push_types-requires-clause-placed : goal.push_types-requires-clause-placed
push_types-requires-clause-placed c =
    placed_here c.args.spaces.now c.loop-space.space-index c.space-item.result c.requires.numbered c.loop-space-test.true c.space-item.is

pub push_types-requires-clause-values : goal.push_types-requires-clause-values
push_types-requires-clause-values c = c.requires.rows.values
