use Rattle.std.proofs.Common.{◌≡◌, ◌+◌, length}
use Rattle.module_parts.specs.View.{parts_view}
use Rattle.binder.specs.Numbering.{body_count}
use Rattle.statement_numbers.proofs.counts.body_count.Given as goal

abbrev pub invariant-counting : goal.invariant-counting
invariant-counting l = l.counted + body_count (parts_view l.left) ≡ body_count (parts_view l.fn.parts)

abbrev pub decreases-counting : goal.decreases-counting
decreases-counting l = length l.left
