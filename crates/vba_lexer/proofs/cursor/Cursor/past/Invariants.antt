use Rattle.std.proofs.Common.{◌≡◌, drop}
use Rattle.vba_lexer.specs.Characters.{HasRoom, past}
use Rattle.vba_lexer.proofs.cursor.Cursor.past.Given as goal

-- the place behind the characters from here on is that behind all
abbrev pub invariant-loop-character : goal.invariant-loop-character
invariant-loop-character l =
    record {
      room : HasRoom l.cursor (drop l.character-index l.characters);
      goes_on : past l.cursor (drop l.character-index l.characters) ≡ past l.fn.self l.characters;
    }
