use Rattle.std.proofs.Common.{length, ◌-◌}
use Rattle.vba_lexer.specs.Scans.{IsStop}
use Rattle.vba_lexer.proofs.TokenSteps.{GoesOn}
use Rattle.vba_lexer.proofs.line_tokens.tokens_among.Given as goal

-- the tokens so far and those from here on are those of the line
abbrev pub invariant-loop-place : goal.invariant-loop-place
invariant-loop-place l =
    record { goes_on : GoesOn l.module_number l.fn.first l.line l.found.items l.standing l.cursor l.place; stop : IsStop l.line l.place l.stop }

abbrev pub decreases-loop-place : goal.decreases-loop-place
decreases-loop-place l = length l.line - l.place
