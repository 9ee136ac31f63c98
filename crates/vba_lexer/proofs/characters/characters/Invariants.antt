use Rattle.std.proofs.Common.{◌≡◌, ◌≤◌, ◌-◌, ◌++◌, drop, length}
use Rattle.vba_lexer.specs.Characters.{characters_of}
use Rattle.vba_lexer.proofs.characters.characters.Given as goal

-- the characters so far and those from here on are those of the units
abbrev pub invariant-loop-place : goal.invariant-loop-place
invariant-loop-place l =
    record {
      within : l.place ≤ length l.units;
      goes_on : l.found.items ++ characters_of (drop l.place l.units) ≡ characters_of l.units;
    }

abbrev pub decreases-loop-place : goal.decreases-loop-place
decreases-loop-place l = length l.units - l.place
