-- Lines as blocks: what stands between the directive lines that belong together.
use Rattle.std.specs.Prelude.{◌≡◌, ◌≢◌, ◌⊎◌, All, IfSome, Bool, true, false, is_some, ℕ, List, [], ◌∷◌, ◌++◌, Option, Some, None, option_map, if◌then◌else◌}
use Rattle.vba_base.specs.declared.place.Refusal.{Refusal}
use Rattle.vba_lexer.specs.Lexed.{LexedLine}
use Rattle.cond_compile.specs.declared.directive.DirectiveKind.{DirectiveKind}
use Rattle.cond_compile.specs.declared.directive.DirectiveKind.TheVariants.{If, ElseIf, Else, EndIf}
use Rattle.cond_compile.specs.Evaluation as evaluation
use Rattle.cond_compile.specs.Evaluation.{Operand, value_of}
use Rattle.cond_compile.specs.Pieces.{pieces_behind}
use Rattle.cond_compile.specs.Selection.{Directive, constants_behind, directive_in, expression_of, holds, name_defined}

mutual
  -- a line by itself, or a conditional block: its `#If` line with the block of its first arm, its further arms and its
  -- `#End If` line; and then the block behind
  pub data Block : Type 0 where
    no_lines : Block
    plain : LexedLine → Block → Block
    conditional : LexedLine → Block → Arms → LexedLine → Block → Block

  -- further arms: the `#ElseIf` or `#Else` line of each with its block
  pub data Arms : Type 0 where
    no_arms : Arms
    arm : LexedLine → Block → Arms → Arms

abbrev mutual
  -- the lines of a block
  pub lines_of : Block → List LexedLine
  lines_of no_lines = []
  lines_of (plain first rest) = first ∷ lines_of rest
  lines_of (conditional header body arms end rest) = header ∷ (lines_of body ++ lines_of_arms arms ++ end ∷ lines_of rest)

  pub lines_of_arms : Arms → List LexedLine
  lines_of_arms no_arms = []
  lines_of_arms (arm header body arms) = header ∷ (lines_of body ++ lines_of_arms arms)

-- the kind of a directive line
abbrev pub line_kind : List ℕ → LexedLine → Option DirectiveKind
line_kind source line = option_map (λ directive. directive.kind) (directive_in source line.tokens)

-- a directive that belongs to a conditional block
abbrev pub is_of_block : Option DirectiveKind → Bool
is_of_block (Some If) = true
is_of_block (Some ElseIf) = true
is_of_block (Some Else) = true
is_of_block (Some EndIf) = true
is_of_block kind = false

abbrev mutual
  -- each line stands where its kind belongs: a line of a conditional block never by itself
  pub IsBlock : List ℕ → Block → Type 0
  IsBlock source no_lines = Unit {0}
  IsBlock source (plain first rest) = (is_of_block (line_kind source first) ≡ false) × IsBlock source rest
  IsBlock source (conditional header body arms end rest) =
      (line_kind source header ≡ Some If) × IsBlock source body × AreArms source arms × (line_kind source end ≡ Some EndIf)
      × IsBlock source rest

  -- an `#Else` is the last arm
  pub AreArms : List ℕ → Arms → Type 0
  AreArms source no_arms = Unit {0}
  AreArms source (arm header body arms) =
      ((line_kind source header ≡ Some ElseIf) ⊎ ((line_kind source header ≡ Some Else) × (arms ≡ no_arms)))
      × IsBlock source body × AreArms source arms

-- lines that are kept, and the constants that are in effect behind them
pub record Kept : Type 0 where
  pub lines : List LexedLine
  pub constants : List evaluation.Constant

-- no line is kept
abbrev pub none_kept : List evaluation.Constant → Kept
none_kept constants = record { lines = []; constants = constants }

-- some lines, and then what is kept behind them
abbrev pub before : List LexedLine → Kept → Kept
before lines kept = record { lines = lines ++ kept.lines; constants = kept.constants }

-- the value of a directive line's expression, where it has one
abbrev pub value_in : List ℕ → List evaluation.Constant → Directive → Option (Option Operand)
value_in source constants directive = option_map (value_of constants) (expression_of source directive)

-- the condition of an arm's line holds; `#Else` has none
abbrev pub arm_holds : DirectiveKind → Option (Option Operand) → Bool
arm_holds Else value = true
arm_holds kind value = holds value

abbrev pub directive_holds : List ℕ → List evaluation.Constant → Option Directive → Bool
directive_holds source constants None = false
directive_holds source constants (Some directive) = arm_holds directive.kind (value_in source constants directive)

abbrev pub is_true : List ℕ → List evaluation.Constant → LexedLine → Bool
is_true source constants line = directive_holds source constants (directive_in source line.tokens)

-- the constants behind a line by itself: a `#Const` line adds one
abbrev pub defined : List ℕ → List evaluation.Constant → Option Directive → List evaluation.Constant
defined source constants None = constants
defined source constants (Some directive) =
    constants_behind
    directive.kind
    (name_defined (pieces_behind source directive.last directive.rest))
    (value_in source constants directive)
    constants

-- a line by itself is kept where it is no directive
abbrev pub kept_line : List ℕ → List evaluation.Constant → LexedLine → Kept
kept_line source constants line =
    record {
      lines = if is_some (directive_in source line.tokens) then [] else line ∷ [];
      constants = defined source constants (directive_in source line.tokens);
    }

abbrev mutual
  -- what is kept of a block before which these constants are in effect: its lines that are no directives, and of a
  -- conditional block what is kept of its first arm that is true
  pub kept_of : List ℕ → List evaluation.Constant → Block → Kept
  kept_of source constants no_lines = none_kept constants
  kept_of source constants (plain first rest) =
      before (kept_line source constants first).lines (kept_of source (kept_line source constants first).constants rest)
  kept_of source constants (conditional header body arms end rest) =
      let chosen = if is_true source constants header then kept_of source constants body else kept_of_arms source constants arms in
      before chosen.lines (kept_of source chosen.constants rest)

  pub kept_of_arms : List ℕ → List evaluation.Constant → Arms → Kept
  kept_of_arms source constants no_arms = none_kept constants
  kept_of_arms source constants (arm header body arms) =
      if is_true source constants header then kept_of source constants body else kept_of_arms source constants arms

-- none of the refusals is by this rule
abbrev pub NoneBy : ℕ → List Refusal → Type 0
NoneBy rule refusals = All (λ refusal. refusal.rule ≢ rule) refusals

-- no line breaks this rule by its tokens
abbrev pub NoFaultBy : ℕ → List LexedLine → Type 0
NoFaultBy rule lines = All (λ line. IfSome line.fault (λ fault. fault.rule ≢ rule)) lines
