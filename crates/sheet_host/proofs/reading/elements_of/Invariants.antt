use Rattle.std.proofs.Common.{◌≡◌, map}
use Rattle.vba_values.specs.View.{view}
use Rattle.sheet_host.specs.Gathered.{firsts}
use Rattle.sheet_host.specs.Reading.{element_of}
use Rattle.sheet_host.proofs.reading.elements_of.Given as goal

abbrev pub invariant-loop-i : goal.invariant-loop-i
invariant-loop-i l = map view l.items.items ≡ firsts (element_of l.book l.area) l.i
