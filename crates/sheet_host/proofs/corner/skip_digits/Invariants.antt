use Rattle.std.proofs.Common.{◌≡◌, length}
use Rattle.std.specs.Char.{is_ascii_digit}
use Rattle.sheet_host.specs.AddressText.{behind}
use Rattle.sheet_host.proofs.corner.skip_digits.Given as goal

abbrev pub invariant-loop-rest : goal.invariant-loop-rest
invariant-loop-rest l = behind is_ascii_digit l.rest ≡ behind is_ascii_digit l.text

abbrev pub decreases-loop-rest : goal.decreases-loop-rest
decreases-loop-rest l = length l.rest
