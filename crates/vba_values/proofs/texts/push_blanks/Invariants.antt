use Rattle.std.proofs.Common.{◌≡◌, ◌++◌, replicate}
use Rattle.currency.specs.NumberText.{blank}
use Rattle.vba_values.proofs.texts.push_blanks.Given as goal

abbrev pub invariant-loop : goal.invariant-loop
invariant-loop l = l.text ≡ l.initial.text ++ replicate l.counter blank
