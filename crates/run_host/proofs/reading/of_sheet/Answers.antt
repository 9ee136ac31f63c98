use Rattle.std.proofs.Common.{[]}
use Rattle.run_host.proofs.reading.of_sheet.Goals as goal

pub returns-in-0 : goal.returns-in-0
returns-in-0 c = λ d. rw c.in-0.is (c.name_of_sheet.ensures d [])

pub returns-in-2 : goal.returns-in-2
returns-in-2 c = λ d. rw c.in-2.is (rw c.whole_sheet.ensures at c.cells_found.ensures)

pub returns-in-4 : goal.returns-in-4
returns-in-4 c = λ d. rw c.in-4.is (c.used_of_sheet.ensures d [])
