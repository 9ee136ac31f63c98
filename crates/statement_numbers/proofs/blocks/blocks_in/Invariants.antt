use Rattle.std.proofs.Common.{◌≡◌, ◌++◌, length}
use Rattle.std.specs.Prelude.{map}
use Rattle.bound_project.specs.Bodies.{block_view}
use Rattle.module_parts.specs.View.{parts_view}
use Rattle.binder.specs.Numbering.{standings_in}
use Rattle.binder.specs.Blocks as plain
use Rattle.statement_numbers.specs.View.{walk_view}
use Rattle.statement_numbers.proofs.blocks.blocks_in.Given as goal

abbrev pub invariant-listing : goal.invariant-listing
invariant-listing l =
    map block_view l.blocks.items ++ plain.blocks_in (standings_in (parts_view l.body)) (walk_view l.walk)
    ≡ plain.blocks_in (standings_in (parts_view l.body)) (standings_in (parts_view l.body))

abbrev pub decreases-listing : goal.decreases-listing
decreases-listing l = length (walk_view l.walk)
