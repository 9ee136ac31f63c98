use Rattle.std.proofs.Common.{◌≡◌, ◌++◌, replicate}
use Rattle.library_calls.proofs.texts.push_repeated.Given as goal

abbrev pub invariant-loop : goal.invariant-loop
invariant-loop l = l.text ≡ l.initial.text ++ replicate l.counter l.unit
