use Rattle.std.proofs.Common.{◌≡◌}
use Rattle.std.specs.Prelude.{fold}
use Rattle.sheet_host.specs.Pages.{later_row}
use Rattle.sheet_host.proofs.pages.last_row_of_page.Given as goal

abbrev pub invariant-loop-position : goal.invariant-loop-position
invariant-loop-position l = fold later_row l.last l.position-iterator ≡ fold later_row l.initial.last l.initial.position-iterator
