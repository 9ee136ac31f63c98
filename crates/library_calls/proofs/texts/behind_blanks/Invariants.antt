use Rattle.std.proofs.Common.{◌≡◌, length}
use Rattle.currency.specs.NumberText.{behind_blanks}
use Rattle.library_calls.proofs.texts.behind_blanks.Given as goal

abbrev pub invariant-loop-rest : goal.invariant-loop-rest
invariant-loop-rest l = behind_blanks l.rest ≡ behind_blanks l.units

abbrev pub decreases-loop-rest : goal.decreases-loop-rest
decreases-loop-rest l = length l.rest
