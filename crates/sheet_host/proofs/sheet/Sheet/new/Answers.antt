use Rattle.sheet_host.proofs.Fields.{kept_none, view_none}
use Rattle.sheet_host.proofs.sheet.Sheet.new.Goals as goal

pub invariant_of-result : goal.invariant_of-result
invariant_of-result c = kept_none c.new.result c.new-2.result.entries c.new.ensures c.new-2.ensures.empty

pub returns : goal.returns
returns c = view_none c.new.result c.new-2.result.entries c.new.ensures c.new-2.ensures.empty
