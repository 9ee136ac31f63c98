use Rattle.std.proofs.Common.{◌≡◌, ◌++◌, take}
use Rattle.vba_values.proofs.text_sums.push_all.Given as goal

abbrev pub invariant-loop-unit : goal.invariant-loop-unit
invariant-loop-unit l = l.text ≡ l.initial.text ++ take l.unit-index l.units
