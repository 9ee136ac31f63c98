-- Tokens break rules S1 to S6 alone.
use Rattle.std.proofs.Common.{ℕ, Bool, true, false, List, [], ◌∷◌, map, Option, Some, None, Result, Ok, Err, arith}
use Rattle.std.specs.Prelude.{◌≢◌, IfSome, option_map, if◌then◌else◌, nat_lt, length}
use Rattle.std.specs.List.{AllByRecursion}
use Rattle.std.proofs.lemmas.List.Elements.{All-from_recursion}
use Rattle.vba_base.specs.declared.place.Place.{Place}
use Rattle.vba_base.specs.declared.place.Refusal.{Refusal}
use Rattle.vba_lexer.specs.declared.number.Number.{Number}
use Rattle.vba_lexer.specs.declared.number.NumberFault.{NumberFault}
use Rattle.vba_lexer.specs.declared.number.NumberFault.TheVariants.{OutOfRange, Double}
use Rattle.vba_lexer.specs.declared.token.Token.{Token}
use Rattle.vba_lexer.specs.declared.token.TokenKind.{TokenKind}
use Rattle.vba_lexer.specs.declared.token.TokenKind.TheVariants.{Word, Whole, Fixed, Text, DateMark, Mark, BadMark}
use Rattle.vba_lexer.specs.Characters.{characters_of}
use Rattle.vba_lexer.specs.Continuations.{LogicalLine, logical_lines}
use Rattle.vba_lexer.specs.Faults.{broken_rule, fault_of, first_fault, is_quote, number_rule, or_later}
use Rattle.vba_lexer.specs.Lexed.{LexedLine, lexed, lexed_line}
use Rattle.vba_lexer.specs.Numbers.{number_of, without_suffix}
use Rattle.vba_lexer.specs.Texts.{text_of}
use Rattle.cond_compile.specs.Blocks.{NoFaultBy}

abbrev NotEight : Option ℕ → Type 0
NotEight rule = IfSome rule (λ r. r ≢ 8)

abbrev Sound : Option Refusal → Type 0
Sound fault = IfSome fault (λ f. f.rule ≢ 8)

number_rules : (answer : Result Number NumberFault) → NotEight (number_rule answer)
number_rules (Ok number) = tt
number_rules (Err OutOfRange) = λ e. absurd (omega arith)
number_rules (Err Double) = λ e. absurd (omega arith)

long_word : (b : Bool) → NotEight (if b then Some 3 else None)
long_word true = λ e. absurd (omega arith)
long_word false = tt

bad_mark : (b : Bool) → NotEight (if b then Some 2 else Some 1)
bad_mark true = λ e. absurd (omega arith)
bad_mark false = λ e. absurd (omega arith)

broken_rules : (kind : TokenKind) (text : List ℕ) → NotEight (broken_rule kind text)
broken_rules Word text = long_word (nat_lt 255 (length (characters_of (without_suffix text))))
broken_rules Whole text = number_rules (number_of text)
broken_rules Fixed text = number_rules (number_of text)
broken_rules Text text = tt
broken_rules DateMark text = λ e. absurd (omega arith)
broken_rules Mark text = tt
broken_rules BadMark text = bad_mark (is_quote text)

placed : (rule : Option ℕ) (place : Place) → NotEight rule → Sound (option_map (λ r. record { rule = r; place = place }) rule)
placed None place other = tt
placed (Some rule) place other = other

either : (one later : Option Refusal) → Sound one → Sound later → Sound (or_later one later)
either None later one_sound later_sound = later_sound
either (Some fault) later one_sound later_sound = one_sound

first_faults : (source : List ℕ) (tokens : List Token) → Sound (first_fault source tokens)
first_faults source [] = tt
first_faults source (token ∷ tokens) =
    either (fault_of source token) (first_fault source tokens)
    (placed (broken_rule token.kind (text_of source token)) token.place (broken_rules token.kind (text_of source token)))
    (first_faults source tokens)

abbrev LineSound : LexedLine → Type 0
LineSound line = Sound line.fault

lines_sound : (number : ℕ) (source : List ℕ) (lines : List LogicalLine) → AllByRecursion LineSound (map (lexed_line number source) lines)
lines_sound number source [] = tt
lines_sound number source (line ∷ lines) =
    (first_faults source (lexed_line number source line).tokens, lines_sound number source lines)

pub lexed_sound : (number : ℕ) (source : List ℕ) → NoFaultBy 8 (lexed number source)
lexed_sound number source = All-from_recursion LineSound (lexed number source) (lines_sound number source (logical_lines source))
