use Rattle.std.proofs.Common.{◌≡◌, ◌≤◌, ◌++◌, length, flat_map, IsOk}
use Rattle.vba_values.specs.View.{views}
use Rattle.vba_lib.specs.Arrays.{texts_of}
use Rattle.library_calls.specs.View.{texts_in}
use Rattle.library_calls.proofs.arrays.append_texts.Given as goal

abbrev pub invariant-loop-rest : goal.invariant-loop-rest
invariant-loop-rest l =
    (l.text ++ flat_map (λ next. l.separator ++ next) (texts_in (views l.rest))
    ≡ l.initial.text ++ flat_map (λ next. l.separator ++ next) (texts_in (views l.items)))
    × (length l.text ≤ 16777216)
    × IsOk (texts_of (views l.rest))

abbrev pub decreases-loop-rest : goal.decreases-loop-rest
decreases-loop-rest l = length l.rest
