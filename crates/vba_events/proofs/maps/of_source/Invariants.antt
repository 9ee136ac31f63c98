use Rattle.std.proofs.Common.{◌≡◌, ◌++◌, map}
use Rattle.vba_events.specs.Kept.{by_source}
use Rattle.vba_events.proofs.maps.of_source.Given as goal

abbrev pub invariant-loop-key : goal.invariant-loop-key
invariant-loop-key l = l.found.items ++ map by_source l.key-iterator ≡ map by_source l.initial.key-iterator
