use Rattle.std.proofs.Common.{◌≡◌, drop}
use Rattle.vba_lexer.specs.Faults.{first_fault}
use Rattle.vba_lexer.proofs.fault.first_fault.Given as goal

-- the first fault from here on is that of all tokens
abbrev pub invariant-loop-token : goal.invariant-loop-token
invariant-loop-token l = first_fault l.source (drop l.token-index l.tokens) ≡ first_fault l.source l.tokens
