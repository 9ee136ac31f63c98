-- The rules of tokens, S1 to S6.
use Rattle.std.specs.Prelude.{ℕ, Bool, false, ◌==◌, List, [], ◌∷◌, length, nat_lt, filter_map, Option, Some, None, option_map, Result, Ok, Err, if◌then◌else◌}
use Rattle.vba_base.specs.declared.place.Refusal.{Refusal}
use Rattle.vba_lexer.specs.declared.number.Number.{Number}
use Rattle.vba_lexer.specs.declared.number.NumberFault.{NumberFault}
use Rattle.vba_lexer.specs.declared.number.NumberFault.TheVariants.{OutOfRange, Double}
use Rattle.vba_lexer.specs.declared.token.Token.{Token}
use Rattle.vba_lexer.specs.declared.token.TokenKind.{TokenKind}
use Rattle.vba_lexer.specs.declared.token.TokenKind.TheVariants.{Word, Whole, Fixed, Text, DateMark, Mark, BadMark}
use Rattle.vba_lexer.specs.Characters.{characters_of}
use Rattle.vba_lexer.specs.Numbers.{number_of, without_suffix}
use Rattle.vba_lexer.specs.Texts.{text_of}

-- S4: a number out of its type's range; S5: a number of type Double or Single
abbrev pub number_rule : Result Number NumberFault → Option ℕ
number_rule (Ok number) = None
number_rule (Err OutOfRange) = Some 4
number_rule (Err Double) = Some 5

-- a double quote
abbrev pub is_quote : List ℕ → Bool
is_quote [] = false
is_quote (character ∷ []) = character == 34
is_quote (character ∷ next ∷ text) = false

-- the rule that a token of this kind and text breaks, where it breaks one
abbrev pub broken_rule : TokenKind → List ℕ → Option ℕ
-- S3: more than 255 characters without the suffix
broken_rule Word text = if nat_lt 255 (length (characters_of (without_suffix text))) then Some 3 else None
broken_rule Whole text = number_rule (number_of text)
broken_rule Fixed text = number_rule (number_of text)
broken_rule Text text = None
-- S6: a date
broken_rule DateMark text = Some 6
broken_rule Mark text = None
-- S2: a quote that begins no text; S1: another character that begins no token
broken_rule BadMark text = if is_quote text then Some 2 else Some 1

-- the rule that a token of a source breaks, at the token's place
abbrev pub fault_of : List ℕ → Token → Option Refusal
fault_of source token =
    option_map (λ rule. record { rule = rule; place = token.place }) (broken_rule token.kind (text_of source token))

abbrev pub or_later : Option Refusal → Option Refusal → Option Refusal
or_later (Some fault) later = Some fault
or_later None later = later

-- the first rule that tokens of a source break, by their places
abbrev pub first_fault : List ℕ → List Token → Option Refusal
first_fault source [] = None
first_fault source (token ∷ tokens) = or_later (fault_of source token) (first_fault source tokens)

-- the rules that tokens of a source break, each at its token's place
abbrev pub faults_of : List ℕ → List Token → List Refusal
faults_of source tokens = filter_map (fault_of source) tokens
