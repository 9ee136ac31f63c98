use Rattle.std.proofs.Common.{length, ◌-◌, ◌≡◌, ◌≤◌, drop}
use Rattle.vba_lexer.proofs.Quotes.{quoted_size, text_behind}
use Rattle.vba_lexer.proofs.scan.quoted_size.Given as goal

-- the text from here on, with the longest so far, is the text of the line
abbrev pub invariant-loop-place : goal.invariant-loop-place
invariant-loop-place l =
    record {
      within : l.place ≤ length l.line;
      goes_on : text_behind l.longest l.place (quoted_size (drop l.place l.line)) ≡ text_behind 0 1 (quoted_size (drop 1 l.line));
    }

abbrev pub decreases-loop-place : goal.decreases-loop-place
decreases-loop-place l = length l.line - l.place
