-- Serves the code: what stands at the front of tokens: one token, a name, items with a mark between each two.
use Rattle.std.specs.Prelude.{ℕ, zero, suc, Bool, true, false, List, [], ◌∷◌, length, Option, Some, None, if◌then◌else◌}
use Rattle.vba_lexer.specs.declared.token.Token.{Token}
use Rattle.vba_words.specs.declared.identifier.Identifier.{Identifier}
use Rattle.vba_words.specs.declared.keyword.Keyword.TheVariants as keyword
use Rattle.vba_words.specs.declared.mark.Mark.TheVariants as mark
use Rattle.vba_words.specs.declared.reading.Reading.{Reading}
use Rattle.vba_words.specs.declared.reading.Reading.TheVariants as reading
use Rattle.vba_words.specs.declared.reading.ReadToken.{ReadToken}
use Rattle.vba_words.specs.Words.{identifier_of, is_word}
use Rattle.vba_expression.specs.Tree.{Expr}
use Rattle.vba_expression.specs.Reader.{expression_at, loosest, unless_suffixed, with_rest}
use Rattle.vba_expression.specs.Fitting.{is_place}
use Rattle.vba_tree.specs.Tree.{Listed}

-- what was found at the front of tokens, and the tokens behind it
abbrev pub Found : Type 0 → Type 0
Found A = Option (A × List ReadToken)

infixl 10 ◌>>=◌
-- goes on behind what was found
abbrev pub ◌>>=◌ : {A B : Type 0} → Found A → (A → List ReadToken → Option B) → Option B
None >>= go = None
(Some found) >>= go = go found.0 found.1

-- the first that is there
abbrev pub or_else : {A : Type 0} → Option A → Option A → Option A
or_else None other = other
or_else (Some found) _ = Some found

-- a found part as a part of something else
abbrev pub found_as : {A B : Type 0} → (A → B) → Found A → Found B
found_as make found = found >>= λ part rest. Some (make part, rest)

-- kept words and marks
abbrev pub is_as : Reading → Bool
is_as (reading.Keyword keyword.As) = true
is_as _ = false

abbrev pub is_new : Reading → Bool
is_new (reading.Keyword keyword.New) = true
is_new _ = false

abbrev pub is_to : Reading → Bool
is_to (reading.Keyword keyword.To) = true
is_to _ = false

abbrev pub is_then : Reading → Bool
is_then (reading.Keyword keyword.Then) = true
is_then _ = false

abbrev pub is_in : Reading → Bool
is_in (reading.Keyword keyword.In) = true
is_in _ = false

abbrev pub is_equal : Reading → Bool
is_equal (reading.Mark mark.Equal) = true
is_equal _ = false

abbrev pub is_times : Reading → Bool
is_times (reading.Mark mark.Times) = true
is_times _ = false

abbrev pub is_left : Reading → Bool
is_left (reading.Mark mark.LeftParenthesis) = true
is_left _ = false

abbrev pub is_right : Reading → Bool
is_right (reading.Mark mark.RightParenthesis) = true
is_right _ = false

abbrev pub is_comma : Reading → Bool
is_comma (reading.Mark mark.Comma) = true
is_comma _ = false

abbrev pub is_dot : Reading → Bool
is_dot (reading.Mark mark.Dot) = true
is_dot _ = false

abbrev pub is_colon : Reading → Bool
is_colon (reading.Mark mark.Colon) = true
is_colon _ = false

abbrev pub is_else : Reading → Bool
is_else (reading.Keyword keyword.Else) = true
is_else _ = false

-- the first token is so
abbrev pub begins : (Reading → Bool) → List ReadToken → Bool
begins is_so [] = false
begins is_so (t ∷ ts) = is_so t.reading

-- the token at the front, which is so
abbrev pub token_at : (Reading → Bool) → List ReadToken → Found Token
token_at is_so [] = None
token_at is_so (t ∷ ts) = if is_so t.reading then Some (t.token, ts) else None

-- the token at the front, if it is so
abbrev pub token_if : (Reading → Bool) → List ReadToken → Option Token × List ReadToken
token_if is_so [] = (None, [])
token_if is_so (t ∷ ts) = if is_so t.reading then (Some t.token, ts) else (None, t ∷ ts)

-- a word of the grammar that is a name elsewhere
abbrev pub reads : List ℕ → Reading → Bool
reads fold meant = is_word meant fold

-- a name
abbrev pub name_at : List ReadToken → Found Identifier
name_at [] = None
name_at (t ∷ ts) = with_rest ts (identifier_of t)

-- a name without a suffix
abbrev pub plain_name_at : List ReadToken → Found Identifier
plain_name_at ts = name_at ts >>= λ identifier rest. with_rest rest (unless_suffixed identifier.suffix identifier)

-- an expression, as long as it can be
abbrev pub whole_at : List ReadToken → Found Expr
whole_at ts = expression_at (suc loosest) ts

-- a place, as long as it can be
abbrev pub kept_place : Expr → List ReadToken → Found Expr
kept_place e rest = if is_place e then Some (e, rest) else None

abbrev pub place_at : List ReadToken → Found Expr
place_at ts = expression_at 1 ts >>= kept_place

-- a part that is there where its first token is so
abbrev pub part_if : {A : Type 0} → (Reading → Bool) → (List ReadToken → Found A) → List ReadToken → Found (Option A)
part_if is_so part ts = if begins is_so ts then found_as Some (part ts) else Some (None, ts)

-- a part in brackets that may be missing there
abbrev pub before_right : {A : Type 0} → (List ReadToken → Found A) → List ReadToken → Found (Option A)
before_right part ts = if begins is_right ts then Some (None, ts) else found_as Some (part ts)

-- an item before others
abbrev pub with_next : {A : Type 0} → Token × A → Found (List (Token × A)) → Found (List (Token × A))
with_next next found = found_as (λ others. next ∷ others) found

-- items behind their marks, at most so many
abbrev pub others_at : {A : Type 0} → ℕ → (Reading → Bool) → (List ReadToken → Found A) → List ReadToken → Found (List (Token × A))
others_at zero is_between item ts = None
others_at (suc n) is_between item [] = Some ([], [])
others_at (suc n) is_between item (t ∷ ts) =
    if is_between t.reading then (item ts >>= λ next rest. with_next (t.token, next) (others_at n is_between item rest))
    else Some ([], t ∷ ts)

-- items with a mark between each two, as many as there can be
abbrev pub listed_at : {A : Type 0} → (Reading → Bool) → (List ReadToken → Found A) → List ReadToken → Found (Listed A)
listed_at is_between item ts =
    item ts >>= λ first rest. others_at (suc (length rest)) is_between item rest >>= λ others behind. Some (record { first = first; others = others }, behind)

-- items with commas
abbrev pub commas_at : {A : Type 0} → (List ReadToken → Found A) → List ReadToken → Found (Listed A)
commas_at item ts = listed_at is_comma item ts

-- nothing is left of a statement: its line ends, or a colon or an Else stands there
abbrev pub ends : List ReadToken → Bool
ends [] = true
ends (t ∷ ts) = is_end t.reading
  where
    is_end : Reading → Bool
    is_end (reading.Mark mark.Colon) = true
    is_end (reading.Keyword keyword.Else) = true
    is_end _ = false

-- what was found, where a statement ends behind it
abbrev pub ending : {A : Type 0} → Found A → Found A
ending found = found >>= λ part rest. if ends rest then Some (part, rest) else None

-- what was found, where the line ends behind it
abbrev pub is_nothing : List ReadToken → Bool
is_nothing [] = true
is_nothing (t ∷ ts) = false

abbrev pub whole_line : {A : Type 0} → Found A → Option A
whole_line found = found >>= λ part rest. if is_nothing rest then Some part else None
