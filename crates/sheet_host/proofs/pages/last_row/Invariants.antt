use Rattle.std.proofs.Common.{◌≡◌}
use Rattle.std.specs.Prelude.{fold}
use Rattle.sheet_host.specs.Pages.{later_row_of_page}
use Rattle.sheet_host.proofs.pages.last_row.Given as goal

abbrev pub invariant-loop-page : goal.invariant-loop-page
invariant-loop-page l = fold later_row_of_page l.last l.page-iterator ≡ fold later_row_of_page l.initial.last l.initial.page-iterator
