use Rattle.std.proofs.Common.{◌≡◌}
use Rattle.sheet_host.specs.Search.{first_among_pages}
use Rattle.sheet_host.proofs.filled.first_in_pages.Given as goal

abbrev pub invariant-loop-page : goal.invariant-loop-page
invariant-loop-page l = first_among_pages l.search l.page-iterator ≡ first_among_pages l.search l.initial.page-iterator
