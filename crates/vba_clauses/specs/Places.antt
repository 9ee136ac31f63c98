-- Serves the code: what a place begins with.
use Rattle.std.specs.Prelude.{Bool, true, false}
use Rattle.vba_words.specs.declared.keyword.Keyword.TheVariants as keyword
use Rattle.vba_words.specs.declared.mark.Mark.TheVariants as mark
use Rattle.vba_words.specs.declared.reading.Reading.{Reading}
use Rattle.vba_words.specs.declared.reading.Reading.TheVariants as reading

-- a name, Me, or a dot of a With block
abbrev pub begins_place : Reading → Bool
begins_place (reading.Name name suffix is_bracketed) = true
begins_place (reading.Keyword keyword.Me) = true
begins_place (reading.Mark mark.WithDot) = true
begins_place _ = false
