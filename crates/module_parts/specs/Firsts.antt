-- Serves the code: where tokens begin.
use Rattle.std.specs.Prelude.{List, [], ◌∷◌}
use Rattle.vba_base.specs.declared.place.Place.{Place}
use Rattle.vba_lexer.specs.declared.token.Token.{Token}
use Rattle.vba_module.specs.Parts.{nowhere}

-- the place of the first token
abbrev pub place_of_first : List Token → Place
place_of_first [] = nowhere
place_of_first (t ∷ ts) = t.place
