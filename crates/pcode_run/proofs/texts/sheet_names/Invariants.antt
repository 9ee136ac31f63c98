use Rattle.std.proofs.Common.{◌≡◌, take}
use Rattle.pcode_run.specs.Runs.{sheet_names}
use Rattle.pcode_run.proofs.texts.sheet_names.Given as goal

abbrev pub invariant-loop-place : goal.invariant-loop-place
invariant-loop-place l = l.names.items ≡ sheet_names (take l.place l.book)
