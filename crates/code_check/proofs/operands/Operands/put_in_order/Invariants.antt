use Rattle.std.proofs.Common.{◌≡◌, map, take}
use Rattle.pcode.specs.WellFormed.{kinds_pushed, kinds_reordered}
use Rattle.code_check.specs.View.{kind_view, operands_view}
use Rattle.code_check.proofs.operands.Operands.put_in_order.Given as goal

abbrev pub invariant-loop-number : goal.invariant-loop-number
invariant-loop-number l = operands_view l.self ≡ kinds_pushed (kinds_reordered (take l.number-index l.order) (map kind_view l.taken)) (operands_view l.initial.self)
