use Rattle.std.proofs.Common.{◌≡◌, ◌≤◌, take}
use Rattle.std.specs.Str.Parse.{digits_value}
use Rattle.sheet_host.specs.Size.{sheet_rows}
use Rattle.sheet_host.proofs.corner.row_of.Given as goal

abbrev pub invariant-loop-digit : goal.invariant-loop-digit
invariant-loop-digit l = (l.row ≡ digits_value 10 (take l.digit-index l.digits)) × (l.row ≤ sheet_rows)
