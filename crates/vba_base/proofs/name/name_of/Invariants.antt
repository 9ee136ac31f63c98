-- The units so far and the fold of what is left are the fold of the text.
use Rattle.std.proofs.Common.{◌≡◌, ◌++◌, length}
use Rattle.vba_base.specs.Fold.{folded}
use Rattle.vba_base.proofs.name.name_of.Given as goal

abbrev pub invariant-loop-rest : goal.invariant-loop-rest
invariant-loop-rest l = l.units ++ folded l.rest ≡ folded l.text

abbrev pub decreases-loop-rest : goal.decreases-loop-rest
decreases-loop-rest l = length l.rest
