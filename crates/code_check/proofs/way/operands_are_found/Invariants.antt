use Rattle.std.proofs.Common.{◌≡◌, Some, map, take}
use Rattle.pcode.specs.View.{instr_view, tables_of}
use Rattle.pcode.specs.WellFormed.{along_all, no_way}
use Rattle.code_check.specs.View.{operands_view, way_of}
use Rattle.code_check.proofs.way.operands_are_found.Given as goal

abbrev pub invariant-loop-instr : goal.invariant-loop-instr
invariant-loop-instr l = along_all (map (instr_view (tables_of l.code)) (take l.instr-index l.code.instrs.items)) no_way ≡ Some (way_of l.is_begun (operands_view l.operands))
