use Rattle.std.proofs.Common.{◌≡◌, length, Err, IsOk}
use Rattle.vba_values.specs.declared.fault.Bad.{Bad}
use Rattle.vba_values.specs.View.{views}
use Rattle.vba_lib.specs.Arrays.{texts_of}
use Rattle.library_calls.proofs.arrays.check_texts.Given as goal

abbrev pub invariant-loop-rest : goal.invariant-loop-rest
invariant-loop-rest l =
    ((bad : Bad) → texts_of (views l.rest) ≡ Err bad → texts_of (views l.items) ≡ Err bad)
    × (IsOk (texts_of (views l.rest)) → IsOk (texts_of (views l.items)))

abbrev pub decreases-loop-rest : goal.decreases-loop-rest
decreases-loop-rest l = length l.rest
