use Rattle.std.proofs.Common.{◌≡◌}
use Rattle.std.specs.Prelude.{fold}
use Rattle.sheet_host.specs.Pages.{later_column}
use Rattle.sheet_host.proofs.pages.last_column_of_page.Given as goal

abbrev pub invariant-loop-position : goal.invariant-loop-position
invariant-loop-position l = fold later_column l.last l.position-iterator ≡ fold later_column l.initial.last l.initial.position-iterator
