use Rattle.project_tables.specs.Steps.{row_lists}
use Rattle.project_tables.proofs.Places.{before_here, before_next, placed_here, rows_next}
use Rattle.project_tables.proofs.rows.project_rows.Goals as goal

pub push_module-requires-clause-placed : goal.push_module-requires-clause-placed
push_module-requires-clause-placed c =
    placed_here c.args.spaces.now c.loop-space.space-index c.space-item.result c.requires c.loop-space-test.true c.space-item.is

pub push_module-requires-clause-before : goal.push_module-requires-clause-before
push_module-requires-clause-before c =
    before_here c.args.spaces.now c.loop-space.space-index c.space-item.result c.loop-space.before c.requires c.loop-space-test.true c.space-item.is
    c.loop-space.invariant.before

pub loop-space-preserved : goal.loop-space-preserved
loop-space-preserved c = record {
  before =
      before_next c.args.spaces.now c.loop-space.space-index c.space-item.result c.loop-space.before c.push_module.new.before
      c.loop-space-test.true c.space-item.is c.loop-space.invariant.before c.in_ok-push_module.ensures.before;
  rows =
      rows_next c.args.spaces.now c.loop-space.space-index c.space-item.result (row_lists c.loop-space.of.items) (row_lists c.push_module.new.of.items)
      c.loop-space-test.true c.space-item.is c.loop-space.invariant.rows c.in_ok-push_module.ensures.of;
}
