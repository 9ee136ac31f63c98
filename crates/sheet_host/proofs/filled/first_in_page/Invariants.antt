use Rattle.std.proofs.Common.{◌≡◌}
use Rattle.sheet_host.specs.Search.{first_slot}
use Rattle.sheet_host.proofs.filled.first_in_page.Given as goal

abbrev pub invariant-loop-position : goal.invariant-loop-position
invariant-loop-position l = first_slot l.search l.position-iterator ≡ first_slot l.search l.initial.position-iterator
