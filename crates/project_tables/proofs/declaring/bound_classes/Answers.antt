use Rattle.project_tables.proofs.Places.{placed_here}
use Rattle.project_tables.proofs.declaring.bound_classes.Goals as goal

pub push_class-requires-clause-placed : goal.push_class-requires-clause-placed
push_class-requires-clause-placed c = placed_here c.args.spaces.now c.loop-space.space-index c.space-item.result c.requires.numbered c.loop-space-test.true c.space-item.is

pub push_class-requires-clause-values : goal.push_class-requires-clause-values
push_class-requires-clause-values c = c.requires.rows.values
