-- S13: the tokens of a line that no tree spells begin a statement of a form that the profile hasn't.
use Rattle.std.specs.Prelude.{Bool, true, false, ◌&&◌, ◌||◌, not, List, [], ◌∷◌, codes, Option, Some, None, is_some, if◌then◌else◌}
use Rattle.vba_base.specs.declared.place.Place.{Place}
use Rattle.vba_words.specs.declared.keyword.Keyword.TheVariants as keyword
use Rattle.vba_words.specs.declared.mark.Mark.TheVariants as mark
use Rattle.vba_words.specs.declared.reading.Reading.{Reading}
use Rattle.vba_words.specs.declared.reading.Reading.TheVariants as reading
use Rattle.vba_words.specs.declared.reading.ReadToken.{ReadToken}
use Rattle.vba_grammar.specs.Front.{begins, reads, whole_at, is_colon, is_then, is_else}

-- an expression stands at the front
abbrev pub begins_expression : List ReadToken → Bool
begins_expression ts = is_some (whole_at ts)

-- a word that begins such a statement; On begins one before an expression, but for On Error
abbrev pub begins_form : Reading → List ReadToken → Bool
begins_form (reading.Keyword keyword.Open) rest = true
begins_form (reading.Keyword keyword.Print) rest = true
begins_form (reading.Keyword keyword.Declare) rest = true
begins_form (reading.Keyword keyword.LSet) rest = true
begins_form (reading.Keyword keyword.RSet) rest = true
begins_form (reading.Keyword keyword.Implements) rest = true
begins_form (reading.Keyword keyword.On) rest = not (begins (reads (codes "error")) rest) && begins_expression rest
begins_form _ rest = false

-- an operator or a mark of such a form, wherever it stands
abbrev pub is_of_form : Reading → Bool
is_of_form (reading.Keyword keyword.Like) = true
is_of_form (reading.Keyword keyword.AddressOf) = true
is_of_form (reading.Mark mark.Exclamation) = true
is_of_form _ = false

abbrev pub is_declare : Reading → Bool
is_declare (reading.Keyword keyword.Declare) = true
is_declare _ = false

-- Public or Private, before Declare
abbrev pub is_before_declare : Reading → List ReadToken → Bool
is_before_declare (reading.Keyword keyword.Public) rest = begins is_declare rest
is_before_declare (reading.Keyword keyword.Private) rest = begins is_declare rest
is_before_declare _ rest = false

-- a statement may begin behind the token
abbrev pub ends_before : Reading → Bool
ends_before meant = is_colon meant || (is_then meant || is_else meant)

-- the place of the first such word, where a statement may begin at the front or may not
abbrev pub form_in : Bool → List ReadToken → Option Place
form_in may_begin [] = None
form_in may_begin (t ∷ ts) =
    if is_of_form t.reading || (may_begin && begins_form t.reading ts) then Some t.token.place
    else form_in (ends_before t.reading || (may_begin && is_before_declare t.reading ts)) ts

-- a line number at the front
abbrev pub behind_number : Reading → List ReadToken → List ReadToken → List ReadToken
behind_number (reading.Number number true) ts whole = ts
behind_number _ ts whole = whole

abbrev pub form_of : List ReadToken → Option Place
form_of [] = None
form_of (t ∷ ts) = form_in true (behind_number t.reading ts (t ∷ ts))
