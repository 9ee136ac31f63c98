use Rattle.std.proofs.Common.{◌≡◌}
use Rattle.std.specs.Prelude.{fold}
use Rattle.sheet_host.specs.Pages.{widened_by_slot}
use Rattle.sheet_host.proofs.pages.widened_by_page.Given as goal

abbrev pub invariant-loop-position : goal.invariant-loop-position
invariant-loop-position l = fold widened_by_slot l.corners l.position-iterator ≡ fold widened_by_slot l.initial.corners l.initial.position-iterator
