use Rattle.module_parts.proofs.Views.{written_begins, missing_begins}
use Rattle.module_parts.proofs.lines.colon_place.Goals as goal

pub returns-in-Written : goal.returns-in-Written
returns-in-Written c others = rw c.in-Written.is (written_begins c.in-Written.colon c.in-Written.statement others)

pub returns-in-Missing : goal.returns-in-Missing
returns-in-Missing c others = rw c.in-Missing.is (missing_begins c.in-Missing.colon others)
