use Rattle.std.proofs.Common.{◌≡◌, map, length, bytes_eq}
use Rattle.std.specs.List.{list_any}
use Rattle.declared_names.proofs.words.is_among.Given as goal

abbrev pub invariant-loop-words : goal.invariant-loop-words
invariant-loop-words l =
    list_any (bytes_eq l.text) (map (λ word. word.now) l.words) ≡ list_any (bytes_eq l.text) (map (λ word. word.now) l.fn.words)

abbrev pub decreases-loop-words : goal.decreases-loop-words
decreases-loop-words l = length l.words
