use Rattle.std.proofs.Common.{◌≡◌, ◌≤◌, drop}
use Rattle.command_words.specs.Words.{turns_from, most_turns}
use Rattle.command_words.proofs.turns.number_in.Given as goal

abbrev pub invariant-loop-digit : goal.invariant-loop-digit
invariant-loop-digit l =
    record { small : l.value ≤ most_turns; same : turns_from l.value (drop l.digit-index l.digits) ≡ turns_from 0 l.digits }
