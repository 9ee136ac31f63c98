-- Conditional compilation: which lines are kept, and which rules are broken.
use Rattle.std.specs.Prelude.{ℕ, Bool, true, false, ◌&&◌, ◌||◌, not, is_some, is_none, drop, List, [], ◌∷◌, ◌++◌, map, codes, Option, Some, None, option_map, unwrap_or, Result, Ok, Err, if◌then◌else◌, bytes_eq}
use Rattle.std.specs.List.{list_all}
use Rattle.vba_base.specs.Fold.{folded}
use Rattle.vba_base.specs.declared.place.Place.{Place}
use Rattle.vba_base.specs.declared.place.Refusal.{Refusal}
use Rattle.vba_lexer.specs.declared.token.Token.{Token}
use Rattle.vba_lexer.specs.Lexed.{LexedLine}
use Rattle.vba_lexer.specs.Texts.{text_of}
use Rattle.vba_values.specs.Val.{boolean}
use Rattle.cond_compile.specs.declared.arm.Arm.{Arm}
use Rattle.cond_compile.specs.declared.directive.DirectiveKind.{DirectiveKind}
use Rattle.cond_compile.specs.declared.directive.DirectiveKind.TheVariants.{Constant, If, ElseIf, Else, EndIf, Unknown}
use Rattle.cond_compile.specs.declared.operator.Operator.TheVariants as op
use Rattle.cond_compile.specs.Evaluation as evaluation
use Rattle.cond_compile.specs.Evaluation.{Operand, truth, value_of}
use Rattle.cond_compile.specs.Expressions.{Expression}
use Rattle.refusal_order.specs.Least.{least_of, broken_if, fault_list}
use Rattle.cond_compile.specs.Pieces as piece
use Rattle.cond_compile.specs.Pieces.{Piece, pieces_behind}
use Rattle.cond_compile.specs.Reader.{BeforeThen, Other, Reading, ToEnd, expression_at, reading_of}

-- a line whose first token is `#`: its kind, the last of its first words, and the tokens behind them
pub record Directive : Type 0 where
  pub kind : DirectiveKind
  pub last : Token
  pub rest : List Token

-- a token's text, folded
abbrev pub word_at : List ℕ → Token → List ℕ
word_at source token = folded (text_of source token)

-- the kind that one word behind `#` tells
abbrev pub kind_of_word : List ℕ → Option DirectiveKind
kind_of_word word =
    if bytes_eq word (codes "const") then Some Constant
    else if bytes_eq word (codes "if") then Some If
    else if bytes_eq word (codes "elseif") then Some ElseIf
    else if bytes_eq word (codes "else") then Some Else
    else None

-- behind `#` and End: If, or no directive that there is
abbrev pub ending : List ℕ → Token → List Token → Directive
ending source last [] = record { kind = Unknown; last = last; rest = [] }
ending source last (token ∷ tokens) =
    if bytes_eq (word_at source token) (codes "if") then record { kind = EndIf; last = token; rest = tokens }
    else record { kind = Unknown; last = last; rest = token ∷ tokens }

-- behind `#` and a word that may tell the kind
abbrev pub other_words : List ℕ → Token → Token → List Token → Option DirectiveKind → Directive
other_words source hash token tokens (Some kind) = record { kind = kind; last = token; rest = tokens }
other_words source hash token tokens None =
    if bytes_eq (word_at source token) (codes "end") then ending source token tokens
    else record { kind = Unknown; last = hash; rest = token ∷ tokens }

-- the directive behind `#`, by its first words
abbrev pub by_words : List ℕ → Token → List Token → Directive
by_words source hash [] = record { kind = Unknown; last = hash; rest = [] }
by_words source hash (token ∷ tokens) = other_words source hash token tokens (kind_of_word (word_at source token))

-- the directive that a line with these tokens is
abbrev pub directive_in : List ℕ → List Token → Option Directive
directive_in source [] = None
directive_in source (token ∷ tokens) =
    if bytes_eq (text_of source token) (codes "#") then Some (by_words source token tokens) else None

-- e Then
abbrev pub in_condition : {A : Type 0} → Reading A → Option A
in_condition (BeforeThen e) = Some e
in_condition (ToEnd e) = None
in_condition Other = None

-- N = e
abbrev pub in_constant : {A : Type 0} → Reading A → Option A
in_constant (ToEnd e) = Some e
in_constant (BeforeThen e) = None
in_constant Other = None

abbrev pub is_name : Piece → Bool
is_name (piece.name n) = true
is_name p = false

abbrev pub is_equal : Piece → Bool
is_equal (piece.operator op.Equal) = true
is_equal p = false

abbrev pub behind_name : List Piece → Option Expression
behind_name [] = None
behind_name (first ∷ []) = None
behind_name (first ∷ second ∷ pieces) =
    if is_name first && is_equal second then in_constant (reading_of (expression_at pieces)) else None

-- the expression of a directive that has its form
abbrev pub expression_in : DirectiveKind → List Piece → Option Expression
expression_in If pieces = in_condition (reading_of (expression_at pieces))
expression_in ElseIf pieces = in_condition (reading_of (expression_at pieces))
expression_in Constant pieces = behind_name pieces
expression_in kind pieces = None

abbrev pub expression_of : List ℕ → Directive → Option Expression
expression_of source directive = expression_in directive.kind (pieces_behind source directive.last directive.rest)

abbrev pub is_empty : List Token → Bool
is_empty [] = true
is_empty (token ∷ tokens) = false

-- an expression's form stands where there is one, `#Else` and `#End If` stand alone
abbrev pub stands_so : DirectiveKind → List Token → Bool → Bool
stands_so Else rest has_expression = is_empty rest
stands_so EndIf rest has_expression = is_empty rest
stands_so Unknown rest has_expression = false
stands_so kind rest has_expression = has_expression

-- a directive line has its form
abbrev pub has_form : List ℕ → Directive → Bool
has_form source directive = stands_so directive.kind directive.rest (is_some (expression_of source directive))

-- what stands round a line: the constants that took effect before it, the latest first, and the arms that enclose it, the
-- innermost first
pub record Ground : Type 0 where
  pub constants : List evaluation.Constant
  pub arms : List Arm

-- an arm is the first true one of its `#If`
abbrev pub is_first_true : Arm → Bool
is_first_true arm = arm.own && not arm.earlier

-- a line is kept where each arm that encloses it is the first true one of its `#If`
abbrev pub is_kept : List Arm → Bool
is_kept arms = list_all is_first_true arms

-- the arms round the innermost one
abbrev pub outer : List Arm → List Arm
outer [] = []
outer (arm ∷ arms) = arms

-- the arms that enclose a directive line: an arm or an end stands outside of the arm before it
abbrev pub enclosing : DirectiveKind → List Arm → List Arm
enclosing ElseIf arms = outer arms
enclosing Else arms = outer arms
enclosing EndIf arms = outer arms
enclosing kind arms = arms

-- an arm of the innermost `#If` was true
abbrev pub has_true : Arm → Bool
has_true arm = arm.earlier || arm.own

-- an expression is evaluated on kept ground, of an `#ElseIf` only where no earlier arm was true
abbrev pub is_due : DirectiveKind → List Arm → Bool
is_due Constant arms = is_kept arms
is_due If arms = is_kept arms
is_due ElseIf [] = false
is_due ElseIf (arm ∷ arms) = is_kept arms && not (has_true arm) && not arm.is_else
is_due kind arms = false

-- the value of a directive's expression, where it has the form and is evaluated; and of that, where it has one
abbrev pub evaluated : List ℕ → Ground → Directive → Option (Option Operand)
evaluated source standing directive =
    if is_due directive.kind standing.arms then option_map (value_of standing.constants) (expression_of source directive) else None

-- the condition was evaluated and holds
abbrev pub holds : Option (Option Operand) → Bool
holds None = false
holds (Some value) = unwrap_or (truth value) false

-- a condition that was evaluated has no truth, or the expression of a constant no value
abbrev pub lacks_value : DirectiveKind → Option Operand → Bool
lacks_value Constant value = is_none value
lacks_value kind value = is_none (truth value)

abbrev pub is_bad : DirectiveKind → Option (Option Operand) → Bool
is_bad kind None = false
is_bad kind (Some value) = lacks_value kind value

-- the next arm of an `#If` behind one of its arms; behind the `#Else` there is none
abbrev pub next_arm : Arm → Bool → Bool → Arm
next_arm arm own is_else =
    if arm.is_else then arm else record { place = arm.place; earlier = has_true arm; own = own; is_else = is_else }

-- the innermost arm gives way to the next one
abbrev pub gone_on : Bool → Bool → List Arm → List Arm
gone_on own is_else [] = []
gone_on own is_else (arm ∷ arms) = next_arm arm own is_else ∷ arms

-- the arms behind a directive line, whose condition holds or doesn't; what matches nothing changes nothing
abbrev pub arms_behind : DirectiveKind → Place → Bool → List Arm → List Arm
arms_behind If place own arms = record { place = place; earlier = false; own = own; is_else = false } ∷ arms
arms_behind ElseIf place own arms = gone_on own false arms
arms_behind Else place own arms = gone_on true true arms
arms_behind EndIf place own arms = outer arms
arms_behind Constant place own arms = arms
arms_behind Unknown place own arms = arms

-- the name of a `#Const` line
abbrev pub name_defined : List Piece → Option (List ℕ)
name_defined (piece.name n ∷ pieces) = Some n
name_defined pieces = None

-- the constants behind a directive line
abbrev pub constants_behind : DirectiveKind → Option (List ℕ) → Option (Option Operand) → List evaluation.Constant → List evaluation.Constant
constants_behind Constant (Some name) (Some (Some operand)) constants = record { name = name; value = operand.value } ∷ constants
constants_behind kind name value constants = constants

-- the ground behind a directive line that begins at a place
abbrev pub behind_directive : List ℕ → Ground → Place → Directive → Ground
behind_directive source standing place directive =
    record {
      constants =
          constants_behind
          directive.kind
          (name_defined (pieces_behind source directive.last directive.rest))
          (evaluated source standing directive)
          standing.constants;
      arms = arms_behind directive.kind place (holds (evaluated source standing directive)) standing.arms;
    }

-- the place of a line's first token
abbrev pub first_place : Place → List Token → Place
first_place place [] = place
first_place place (token ∷ tokens) = token.place

-- the ground behind a line
abbrev pub behind : List ℕ → Ground → LexedLine → Ground
behind source standing line = after (directive_in source line.tokens)
  where
    after : Option Directive → Ground
    after None = standing
    after (Some directive) = behind_directive source standing (first_place line.place line.tokens) directive

-- S8: an arm or end without `#If`, or an arm behind the `#Else` of its `#If`
abbrev pub is_unmatched : DirectiveKind → List Arm → Bool
is_unmatched ElseIf [] = true
is_unmatched ElseIf (arm ∷ arms) = arm.is_else
is_unmatched Else [] = true
is_unmatched Else (arm ∷ arms) = arm.is_else
is_unmatched EndIf [] = true
is_unmatched kind arms = false

-- the first token of a directive's expression: of `N = e` the third
abbrev pub expression_place : Directive → Place
expression_place directive = of_kind directive.kind
  where
    of_kind : DirectiveKind → Place
    of_kind Constant = first_place directive.last.place (drop 2 directive.rest)
    of_kind kind = first_place directive.last.place directive.rest

-- the rules that a directive line breaks where it is not on kept ground: S8 alone; and where it is: S1 to S6 by its tokens,
-- S7 by its form, S9 by its expression, which isn't asked of a line that breaks one of S1 to S6
abbrev pub directive_violations : List ℕ → Ground → LexedLine → Directive → List Refusal
directive_violations source standing line directive =
    broken_if (is_unmatched directive.kind standing.arms) 8 (first_place line.place line.tokens)
    ++ (if is_kept (enclosing directive.kind standing.arms) then
    fault_list line.fault
    ++ broken_if (not (has_form source directive)) 7 (first_place line.place line.tokens)
    ++ broken_if (not (is_some line.fault) && is_bad directive.kind (evaluated source standing directive)) 9 (expression_place directive)
    else [])

-- the rules that a line breaks
abbrev pub line_violations : List ℕ → Ground → LexedLine → List Refusal
line_violations source standing line = of_directive (directive_in source line.tokens)
  where
    of_directive : Option Directive → List Refusal
    of_directive None = if is_kept standing.arms then fault_list line.fault else []
    of_directive (Some directive) = directive_violations source standing line directive

-- S8: an `#If` that has no end
abbrev pub unclosed : List Arm → List Refusal
unclosed arms = map (λ arm. record { rule = 8; place = arm.place }) arms

-- the rules that lines on a ground break
abbrev pub violations : List ℕ → Ground → List LexedLine → List Refusal
violations source standing [] = unclosed standing.arms
violations source standing (line ∷ lines) =
    line_violations source standing line ++ violations source (behind source standing line) lines

-- a line is kept that is no directive and stands on kept ground
abbrev pub is_kept_line : List ℕ → Ground → LexedLine → Bool
is_kept_line source standing line = not (is_some (directive_in source line.tokens)) && is_kept standing.arms

-- the lines that are kept
abbrev pub kept_lines : List ℕ → Ground → List LexedLine → List LexedLine
kept_lines source standing [] = []
kept_lines source standing (line ∷ lines) =
    if is_kept_line source standing line then line ∷ kept_lines source (behind source standing line) lines
    else kept_lines source (behind source standing line) lines

-- a name that is True or False before any `#Const`
abbrev pub predefined : List ℕ → Bool → evaluation.Constant
predefined name value = record { name = folded name; value = boolean value }

-- before the first line
abbrev pub opening : Ground
opening =
    record {
      constants =
          predefined (codes "VBA6") true ∷ predefined (codes "VBA7") true ∷ predefined (codes "Win32") true
          ∷ predefined (codes "Win64") true ∷ predefined (codes "Win16") false ∷ predefined (codes "Mac") false ∷ [];
      arms = [];
    }

-- the kept lines, or the refusal
abbrev pub verdict : Option Refusal → List LexedLine → Result (List LexedLine) Refusal
verdict None kept = Ok kept
verdict (Some refusal) kept = Err refusal

-- the lines that conditional compilation keeps, or the least rule that is broken
abbrev pub selected : List ℕ → List LexedLine → Result (List LexedLine) Refusal
selected source lines = verdict (least_of None (violations source opening lines)) (kept_lines source opening lines)
