use Rattle.std.proofs.Common.{◌≡◌, length, map}
use Rattle.std.specs.List.{list_any}
use Rattle.vba_values.specs.Operands.{is_null}
use Rattle.vba_values.specs.View.{view}
use Rattle.library_calls.proofs.calls.has_null.Given as goal

abbrev pub invariant-loop-rest : goal.invariant-loop-rest
invariant-loop-rest l = list_any is_null (map view l.rest) ≡ list_any is_null (map view l.arguments)

abbrev pub decreases-loop-rest : goal.decreases-loop-rest
decreases-loop-rest l = length l.rest
