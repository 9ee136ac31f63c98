-- Worked rows of class headers.
use Rattle.std.specs.Prelude.{◌≡◌, ◌∷◌, [], refl, codes, None, Some}
use Rattle.vba_lexer.specs.Continuations.{logical_lines}
use Rattle.vba_lexer.specs.Header.{header_end, header_size}
use Rattle.vba_lexer.specs.Lines.{lines_of}

-- in any case, with white space round the words, a comment and a continuation inside; the lines behind END are lines of their own
pub exported : logical_lines (codes " Version  1.0 class \nbegin\n  x = -1  'True\n y _\nend\t\nEND")
    ≡ record { first = record { units = 0; line = 1; column = 1 }; text = codes "                    " }
    ∷ record { first = record { units = 21; line = 2; column = 1 }; text = codes "     " }
    ∷ record { first = record { units = 27; line = 3; column = 1 }; text = codes "               " }
    ∷ record { first = record { units = 43; line = 4; column = 1 }; text = codes "    " }
    ∷ record { first = record { units = 48; line = 5; column = 1 }; text = codes "    " }
    ∷ record { first = record { units = 53; line = 6; column = 1 }; text = codes "END" } ∷ []
exported = refl

-- without END there is no header, and a line is continued
pub without_end : logical_lines (codes "VERSION 1.0 CLASS\nBEGIN\n _\nENDS")
    ≡ record { first = record { units = 0; line = 1; column = 1 }; text = codes "VERSION 1.0 CLASS" }
    ∷ record { first = record { units = 18; line = 2; column = 1 }; text = codes "BEGIN" }
    ∷ record { first = record { units = 24; line = 3; column = 1 }; text = codes "  \nENDS" } ∷ []
without_end = refl

-- END may be the last line; lines of white space stand before VERSION
pub at_the_end : header_end (lines_of (codes " \n\nVERSION 1.0 CLASS\nBEGIN\nEND")) ≡ Some 5
at_the_end = refl

-- BEGIN is the next line
pub without_begin : header_end (lines_of (codes "VERSION 1.0 CLASS\n\nBEGIN\nEND")) ≡ None
without_begin = refl

pub other_words : header_end (lines_of (codes "VERSION 1.0CLASS\nBEGIN\nEND")) ≡ None
other_words = refl

pub other_version : header_end (lines_of (codes "VERSION 5.00 CLASS\nBEGIN\nEND")) ≡ None
other_version = refl

-- the first line that isn't empty begins it
pub behind_a_line : header_end (lines_of (codes "x\nVERSION 1.0 CLASS\nBEGIN\nEND")) ≡ None
behind_a_line = refl

-- up to the first END
pub first_end : header_size (lines_of (codes "VERSION 1.0 CLASS\rBEGIN\rEND\rEND\r")) ≡ 3
first_end = refl
