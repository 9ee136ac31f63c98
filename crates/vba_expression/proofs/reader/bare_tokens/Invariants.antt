use Rattle.std.proofs.Common.{◌≡◌, take}
use Rattle.vba_expression.specs.Tokens.{bare}
use Rattle.vba_expression.proofs.reader.bare_tokens.Given as goal

abbrev pub invariant-loop-token : goal.invariant-loop-token
invariant-loop-token l = l.all.items ≡ bare (take l.token-index l.tokens)
