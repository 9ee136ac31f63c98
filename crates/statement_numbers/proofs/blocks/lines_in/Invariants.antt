use Rattle.std.proofs.Common.{◌≡◌, ◌++◌, length}
use Rattle.module_parts.specs.View.{parts_view}
use Rattle.binder.specs.Numbering.{standings_in}
use Rattle.binder.specs.Blocks as plain
use Rattle.statement_numbers.specs.Lines.{is_line}
use Rattle.statement_numbers.specs.View.{walk_view}
use Rattle.statement_numbers.proofs.blocks.lines_in.Given as goal

abbrev pub invariant-listing : goal.invariant-listing
invariant-listing l =
    l.numbers.items ++ plain.lines_in (is_line l.wanted) l.header (walk_view l.walk) ≡ plain.lines_in (is_line l.wanted) l.header (standings_in (parts_view l.body))

abbrev pub decreases-listing : goal.decreases-listing
decreases-listing l = length (walk_view l.walk)
