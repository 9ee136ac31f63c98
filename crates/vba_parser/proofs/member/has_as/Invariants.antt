use Rattle.std.proofs.Common.{◌≡◌, length}
use Rattle.vba_grammar.specs.Lines.{has_as}
use Rattle.vba_parser.proofs.member.has_as.Given as goal

abbrev pub invariant-tokens : goal.invariant-tokens
invariant-tokens l = has_as l.left ≡ has_as l.fn.tokens

abbrev pub decreases-tokens : goal.decreases-tokens
decreases-tokens l = length l.left
