-- Worked rows: what the tokens of each line of a source are for the grammar.
use Rattle.std.specs.Prelude.{◌≡◌, ℕ, pos, List, [], ◌∷◌, ◌++◌, map, refl, codes, true, false, Some, None}
use Rattle.caseless.proofs.Computing.{caseless}
use Rattle.vba_base.specs.Fold.{folded}
use Rattle.vba_lexer.specs.declared.token.TokenKind.TheVariants as kind
use Rattle.vba_lexer.specs.declared.number.NumberKind.TheVariants.{Integer}
use Rattle.vba_lexer.specs.declared.number.TypeSuffix.TheVariants as suffix
use Rattle.vba_lexer.specs.Lexed.{lexed}
use Rattle.vba_words.specs.declared.keyword.Keyword.TheVariants as keyword
use Rattle.vba_words.specs.declared.mark.Mark.TheVariants as mark
use Rattle.vba_words.specs.declared.reading.Reading.{Reading}
use Rattle.vba_words.specs.declared.reading.Reading.TheVariants as reading
use Rattle.vba_words.specs.Readings.{reading_of, read_line}

-- what the tokens of a source are, line by line
readings : List ℕ → List (List Reading)
readings source = map (λ line. map (λ token. token.reading) (read_line source line.tokens)) (lexed 1 source)

-- a name without a suffix
plain : List ℕ → Reading
plain name = reading.Name name None false

-- kept words in any case; `ſub`, with a long s, is Sub
kept_row : readings (codes "SUB eNd x") ≡ (reading.Keyword keyword.Sub ∷ reading.Keyword keyword.End ∷ plain (codes "x") ∷ []) ∷ []
unfolding readings plain folded caseless
kept_row = refl

long_s_row : reading_of false false kind.Word (0x17F ∷ codes "ub") ≡ reading.Keyword keyword.Sub
unfolding folded caseless
long_s_row = refl

-- in brackets and behind a dot they are names
names_row : readings (codes "[If] x.If .End") ≡
    (reading.Name (codes "if") None true ∷ plain (codes "x") ∷ reading.Mark mark.Dot ∷ plain (codes "if") ∷ reading.Mark mark.WithDot ∷ plain (codes "end") ∷ []) ∷ []
unfolding readings plain folded caseless
names_row = refl

-- a suffix is no part of a name; a kept word has none
suffixes_row : readings (codes "Total% If% x.If%") ≡
    (reading.Name (codes "total") (Some suffix.Integer) false ∷ reading.Other ∷ plain (codes "x") ∷ reading.Mark mark.Dot ∷ reading.Name (codes "if") (Some suffix.Integer) false ∷ []) ∷ []
unfolding readings plain folded caseless
suffixes_row = refl

-- a dot behind white space begins a place of a With block; behind a continuation, or no white space, it goes on
dots_row : readings (codes "a.b .c _" ++ 10 ∷ codes " .d (.e).f") ≡
    (plain (codes "a") ∷ reading.Mark mark.Dot ∷ plain (codes "b") ∷ reading.Mark mark.WithDot ∷ plain (codes "c") ∷ reading.Mark mark.Dot ∷ plain (codes "d")
    ∷ reading.Mark mark.LeftParenthesis ∷ reading.Mark mark.WithDot ∷ plain (codes "e") ∷ reading.Mark mark.RightParenthesis ∷ reading.Mark mark.Dot ∷ plain (codes "f") ∷ []) ∷ []
unfolding readings plain folded caseless
dots_row = refl

-- behind `=` a dot begins a place, and behind Me it goes on
operands_row : readings (codes "x=.y Me.z Call.w") ≡
    (plain (codes "x") ∷ reading.Mark mark.Equal ∷ reading.Mark mark.WithDot ∷ plain (codes "y") ∷ reading.Keyword keyword.Me ∷ reading.Mark mark.Dot ∷ plain (codes "z")
    ∷ reading.Keyword keyword.Call ∷ reading.Mark mark.WithDot ∷ plain (codes "w") ∷ []) ∷ []
unfolding readings plain folded caseless
operands_row = refl

-- both ways to write `<=` and `>=`
marks_row : readings (codes "=< <= => >= <> :=") ≡
    (reading.Mark mark.LessEqual ∷ reading.Mark mark.LessEqual ∷ reading.Mark mark.GreaterEqual ∷ reading.Mark mark.GreaterEqual ∷ reading.Mark mark.NotEqual ∷ reading.Mark mark.ColonEqual ∷ []) ∷ []
unfolding readings plain folded caseless
marks_row = refl

-- decimal digits alone, other numbers, and one without a value
numbers_row : readings (codes "10 10% &H1 1.5") ≡
    (reading.Number (record { kind = Integer; value = pos 10 }) true ∷ reading.Number (record { kind = Integer; value = pos 10 }) false
    ∷ reading.Number (record { kind = Integer; value = pos 1 }) false ∷ reading.Other ∷ []) ∷ []
unfolding readings plain folded caseless
numbers_row = refl

-- a text, each doubled quote once, and a date
texts_row : readings (codes "x = \"a\"\"b\" + \"\"\"\" #1/2#") ≡
    (plain (codes "x") ∷ reading.Mark mark.Equal ∷ reading.Text (codes "a\"b") ∷ reading.Mark mark.Plus ∷ reading.Text (codes "\"") ∷ reading.Other ∷ []) ∷ []
unfolding readings plain folded caseless
texts_row = refl

-- the Step of a For line and the Preserve of a ReDim are words, with which no dot goes on; elsewhere they are names
words_row : readings (codes "For i = Step.a To n Step.c: Foo Step.d: ReDim Preserve.x(Preserve.y)") ≡
    (reading.Keyword keyword.For ∷ plain (codes "i") ∷ reading.Mark mark.Equal ∷ plain (codes "step") ∷ reading.Mark mark.Dot ∷ plain (codes "a")
    ∷ reading.Keyword keyword.To ∷ plain (codes "n") ∷ plain (codes "step") ∷ reading.Mark mark.WithDot ∷ plain (codes "c") ∷ reading.Mark mark.Colon
    ∷ plain (codes "foo") ∷ plain (codes "step") ∷ reading.Mark mark.Dot ∷ plain (codes "d") ∷ reading.Mark mark.Colon
    ∷ reading.Keyword keyword.ReDim ∷ plain (codes "preserve") ∷ reading.Mark mark.WithDot ∷ plain (codes "x") ∷ reading.Mark mark.LeftParenthesis
    ∷ plain (codes "preserve") ∷ reading.Mark mark.Dot ∷ plain (codes "y") ∷ reading.Mark mark.RightParenthesis ∷ []) ∷ []
unfolding readings plain folded caseless
words_row = refl
