use Rattle.std.proofs.Common.{◌≡◌, map, take}
use Rattle.std.specs.Prelude.{slice_index}
use Rattle.codegen.proofs.assemble.starts_in.Given as goal

abbrev pub invariant-loop-row : goal.invariant-loop-row
invariant-loop-row l = l.starts.items ≡ map (λ v. slice_index v.items 0) (take l.row-index l.table)
