use Rattle.sheet_host.proofs.Joined.{smallest_joined}
use Rattle.sheet_host.proofs.area_cells.area_around.Goals as goal

pub returns-clause-smallest : goal.returns-clause-smallest
returns-clause-smallest c = λ other first last.
    smallest_joined c.args.first c.args.last other c.min-top.result c.min-left.result c.max-end_row.result c.max-end_column.result
    c.requires.first c.requires.last c.min-top.ensures c.min-left.ensures c.max-end_row.ensures c.max-end_column.ensures first last
