use Rattle.std.proofs.Common.{◌≡◌, Ok}
use Rattle.vba_values.specs.View.{views}
use Rattle.sheet_host.specs.Gathered.{gathered}
use Rattle.sheet_host.specs.Writing.{given}
use Rattle.sheet_host.proofs.writing.gathered.Given as goal

abbrev pub invariant-loop-i : goal.invariant-loop-i
invariant-loop-i l = gathered (given l.array.bounds.items (views l.array.items.items) l.columns) l.i ≡ Ok l.cells.items
