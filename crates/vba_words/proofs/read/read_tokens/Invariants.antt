use Rattle.std.proofs.Common.{◌≡◌, ◌++◌, ◌-◌, length, drop}
use Rattle.std.specs.List.{slice_get}
use Rattle.vba_words.specs.Readings.{read_line, read_behind}
use Rattle.vba_words.proofs.read.read_tokens.Given as goal

abbrev pub invariant-loop-token : goal.invariant-loop-token
invariant-loop-token l =
    l.found.items ++ read_behind l.source l.context (slice_get l.found.items (length l.found.items - 1)) (drop l.token-index l.tokens)
    ≡ read_line l.source l.tokens
