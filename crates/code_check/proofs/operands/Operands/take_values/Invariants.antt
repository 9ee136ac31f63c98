use Rattle.std.proofs.Common.{◌≡◌, ◌-◌, List, Option}
use Rattle.pcode.specs.WellFormed as plain
use Rattle.pcode.specs.WellFormed.{Way}
use Rattle.code_check.specs.Effects.{values_off}
use Rattle.code_check.specs.View.{operands_view}
use Rattle.code_check.proofs.operands.Operands.take_values.Given as goal

abbrev pub invariant-loop-taken : goal.invariant-loop-taken
invariant-loop-taken l = (go : List plain.Kind → Option Way) → values_off l.count (operands_view l.initial.self) go ≡ values_off (l.count - l._taken) (operands_view l.self) go
