use Rattle.sheet_host.specs.Search.{kept_content}
use Rattle.sheet_host.proofs.Searches.{field_filled}
use Rattle.sheet_host.proofs.filled.is_filled.Goals as goal

pub returns-in-None : goal.returns-in-None
returns-in-None c =
    field_filled (kept_content c.args.rows.now c.args.pages.now.entries) (c.args.row, c.args.column) c.text.result.now c.is_empty-in-None.result
    c.in-None.ensures c.text.ensures c.is_empty-in-None.ensures
