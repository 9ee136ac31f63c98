use Rattle.std.proofs.Common.{◌≡◌}
use Rattle.std.specs.Prelude.{fold}
use Rattle.sheet_host.specs.Pages.{widened_by_page}
use Rattle.sheet_host.proofs.pages.widened_by_pages.Given as goal

abbrev pub invariant-loop-page : goal.invariant-loop-page
invariant-loop-page l = fold widened_by_page l.corners l.page-iterator ≡ fold widened_by_page l.initial.corners l.initial.page-iterator
