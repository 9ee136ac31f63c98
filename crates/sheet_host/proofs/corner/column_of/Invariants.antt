use Rattle.std.proofs.Common.{◌≡◌, ◌≤◌, take}
use Rattle.sheet_host.specs.Size.{sheet_columns}
use Rattle.sheet_host.specs.Address.{column_of}
use Rattle.sheet_host.proofs.corner.column_of.Given as goal

abbrev pub invariant-loop-letter : goal.invariant-loop-letter
invariant-loop-letter l = (l.column ≡ column_of (take l.letter-index l.letters)) × (l.column ≤ sheet_columns)
