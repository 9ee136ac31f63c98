use Rattle.std.proofs.Common.{◌≡◌, length}
use Rattle.std.specs.Char.{is_ascii_alphabetic}
use Rattle.sheet_host.specs.AddressText.{behind}
use Rattle.sheet_host.proofs.corner.skip_letters.Given as goal

abbrev pub invariant-loop-rest : goal.invariant-loop-rest
invariant-loop-rest l = behind is_ascii_alphabetic l.rest ≡ behind is_ascii_alphabetic l.text

abbrev pub decreases-loop-rest : goal.decreases-loop-rest
decreases-loop-rest l = length l.rest
