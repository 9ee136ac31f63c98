use Rattle.std.proofs.Common.{◌≡◌, map, take}
use Rattle.pcode.specs.View.{instr_view, tables_of}
use Rattle.code_listing.specs.Listing.{lines_from}
use Rattle.code_listing.proofs.lines.listing.Given as goal

abbrev pub invariant-loop-address : goal.invariant-loop-address
invariant-loop-address l = l.bytes.items ≡ lines_from 0 (map (instr_view (tables_of l.code)) (take l.address l.code.instrs.items))
