use Rattle.vba_values.specs.View.{view}
use Rattle.run_host.proofs.Written.{cells_count}
use Rattle.run_host.proofs.writing.value_put.Goals as goal

pub cells_put-requires-clause-count : goal.cells_put-requires-clause-count
cells_put-requires-clause-count c = cells_count (view c.args.value.now) c.args.area.rows c.args.area.columns c.in_ok-cells.cells.items c.in_ok-cells.ensures
