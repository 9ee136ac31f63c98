-- The marks, by their texts.
use Rattle.std.specs.Prelude.{ℕ, List, [], ◌∷◌, Option, codes}
use Rattle.vba_words.specs.declared.mark.Mark.{Mark}
use Rattle.vba_words.specs.declared.mark.Mark.TheVariants as mark
use Rattle.vba_words.specs.Keywords.{sought}

-- the marks but the dot
abbrev pub marks : List (List ℕ × Mark)
marks =
    (codes "+", mark.Plus) ∷
    (codes "-", mark.Minus) ∷
    (codes "*", mark.Times) ∷
    (codes "/", mark.Slash) ∷
    (codes "\\", mark.Backslash) ∷
    (codes "^", mark.Caret) ∷
    (codes "&", mark.Ampersand) ∷
    (codes "=", mark.Equal) ∷
    (codes "<", mark.Less) ∷
    (codes ">", mark.Greater) ∷
    (codes "<=", mark.LessEqual) ∷
    (codes "=<", mark.LessEqual) ∷
    (codes ">=", mark.GreaterEqual) ∷
    (codes "=>", mark.GreaterEqual) ∷
    (codes "<>", mark.NotEqual) ∷
    (codes "(", mark.LeftParenthesis) ∷
    (codes ")", mark.RightParenthesis) ∷
    (codes ",", mark.Comma) ∷
    (codes ":", mark.Colon) ∷
    (codes ";", mark.Semicolon) ∷
    (codes ":=", mark.ColonEqual) ∷
    (codes "!", mark.Exclamation) ∷
    (codes "#", mark.NumberSign) ∷
    []

-- the mark that a text is; a dot is told apart by what stands before it
abbrev pub mark_of : List ℕ → Option Mark
mark_of text = sought text marks
