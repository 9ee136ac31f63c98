use Rattle.sheet_host.proofs.Fields.{kept_none, view_none}
use Rattle.sheet_host.proofs.sheet.Sheet.with_room.Goals as goal

pub invariant_of-result : goal.invariant_of-result
invariant_of-result c = kept_none c.in_ok-with_room.field-0 c.new.result.entries c.in_ok-with_room.ensures c.new.ensures.empty

pub returns : goal.returns
returns c = view_none c.in_ok-with_room.field-0 c.new.result.entries c.in_ok-with_room.ensures c.new.ensures.empty
