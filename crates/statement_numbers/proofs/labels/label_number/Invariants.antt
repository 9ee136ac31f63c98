use Rattle.std.proofs.Common.{◌≡◌, length}
use Rattle.module_parts.specs.View.{parts_view}
use Rattle.binder.specs.Numbering.{standings_in}
use Rattle.binder.specs.Blocks.{label_number}
use Rattle.statement_numbers.specs.View.{walk_view}
use Rattle.statement_numbers.proofs.labels.label_number.Given as goal

abbrev pub invariant-looking : goal.invariant-looking
invariant-looking l = label_number (walk_view l.walk) l.label ≡ label_number (standings_in (parts_view l.body)) l.label

abbrev pub decreases-looking : goal.decreases-looking
decreases-looking l = length (walk_view l.walk)
