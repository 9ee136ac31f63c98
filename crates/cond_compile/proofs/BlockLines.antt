-- The lines of blocks before more lines, and the directive lines among them.
use Rattle.std.proofs.Common.{◌≡◌, ℕ, Bool, false, List, [], ◌∷◌, ◌++◌, Option, Some, None, refl, sym, ap, ◌∙◌, append_assoc}
use Rattle.std.specs.Prelude.{option_map, if◌then◌else◌}
use Rattle.std.proofs.lemmas.List.{append-nil}
use Rattle.vba_base.specs.declared.place.Place.{Place}
use Rattle.vba_lexer.specs.declared.token.Token.{Token}
use Rattle.vba_lexer.specs.Lexed.{LexedLine}
use Rattle.cond_compile.specs.declared.arm.Arm.{Arm}
use Rattle.cond_compile.specs.declared.directive.DirectiveKind.{DirectiveKind}
use Rattle.cond_compile.specs.Blocks.{Block, no_lines, plain, conditional, Arms, no_arms, arm, lines_of, lines_of_arms, line_kind}
use Rattle.cond_compile.specs.Evaluation as evaluation
use Rattle.cond_compile.specs.Selection.{Directive, Ground, directive_in, first_place, has_true, next_arm}

abbrev pub Lines : Type 0
Lines = List LexedLine

abbrev pub Constants : Type 0
Constants = List evaluation.Constant

abbrev pub ground : Constants → List Arm → Ground
ground constants arms = record { constants = constants; arms = arms }

-- the first arm of an `#If`, and an arm behind another
abbrev pub first_arm : Place → Bool → Arm
first_arm place own = record { place = place; earlier = false; own = own; is_else = false }

abbrev pub later_arm : Arm → Bool → Bool → Arm
later_arm this own is_else = record { place = this.place; earlier = has_true this; own = own; is_else = is_else }

pub next_is : (this : Arm) (own is_else : Bool) → this.is_else ≡ false → next_arm this own is_else ≡ later_arm this own is_else
next_is this own is_else e = ap (λ (b : Bool). if b then this else later_arm this own is_else) e

abbrev pub place_of : LexedLine → Place
place_of line = first_place line.place line.tokens

abbrev mutual
  -- the lines of a block, and more lines behind
  pub ahead : Block → List LexedLine → List LexedLine
  ahead no_lines more = more
  ahead (plain first rest) more = first ∷ ahead rest more
  ahead (conditional header body arms end rest) more = header ∷ ahead body (arms_ahead arms (end ∷ ahead rest more))

  pub arms_ahead : Arms → List LexedLine → List LexedLine
  arms_ahead no_arms more = more
  arms_ahead (arm header body arms) more = header ∷ ahead body (arms_ahead arms more)

mutual
  pub ahead_is : (block : Block) (more : List LexedLine) → lines_of block ++ more ≡ ahead block more
  ahead_is no_lines more = refl
  ahead_is (plain first rest) more = ap (λ (lines : List LexedLine). first ∷ lines) (ahead_is rest more)
  ahead_is (conditional header body arms end rest) more =
      ap (λ (lines : List LexedLine). header ∷ lines)
      (append_assoc (lines_of body ++ lines_of_arms arms) (end ∷ lines_of rest) more
      ∙ append_assoc (lines_of body) (lines_of_arms arms) (end ∷ (lines_of rest ++ more))
      ∙ ap (λ (lines : List LexedLine). lines_of body ++ (lines_of_arms arms ++ end ∷ lines)) (ahead_is rest more)
      ∙ ap (λ (lines : List LexedLine). lines_of body ++ lines) (arms_ahead_is arms (end ∷ ahead rest more))
      ∙ ahead_is body (arms_ahead arms (end ∷ ahead rest more)))

  pub arms_ahead_is : (arms : Arms) (more : List LexedLine) → lines_of_arms arms ++ more ≡ arms_ahead arms more
  arms_ahead_is no_arms more = refl
  arms_ahead_is (arm header body arms) more =
      ap (λ (lines : List LexedLine). header ∷ lines)
      (append_assoc (lines_of body) (lines_of_arms arms) more
      ∙ ap (λ (lines : List LexedLine). lines_of body ++ lines) (arms_ahead_is arms more)
      ∙ ahead_is body (arms_ahead arms more))

pub lines_are : (block : Block) → lines_of block ≡ ahead block []
lines_are block = sym (append-nil (lines_of block)) ∙ ahead_is block []

abbrev pub made : DirectiveKind → Token → List Token → Directive
made kind last rest = record { kind = kind; last = last; rest = rest }

-- a line is a directive of a kind
pub record Directed (source : List ℕ) (line : LexedLine) (kind : DirectiveKind) : Type 0 where
  pub last : Token
  pub rest : List Token
  pub is : directive_in source line.tokens ≡ Some (made kind last rest)

directed_by : (source : List ℕ) (line : LexedLine) (kind : DirectiveKind) (found : Option Directive) → directive_in source line.tokens ≡ found
    → option_map (λ directive. directive.kind) found ≡ Some kind → Directed source line kind
directed_by source line kind None same e = absurd cc
directed_by source line kind (Some directive) same e =
    let kinds : directive.kind ≡ kind = cc in
    record {
      last = directive.last;
      rest = directive.rest;
      is = same ∙ ap (λ (k : DirectiveKind). let all : Option Directive = Some (made k directive.last directive.rest) in all) kinds;
    }

pub directed : (source : List ℕ) (line : LexedLine) (kind : DirectiveKind) → line_kind source line ≡ Some kind → Directed source line kind
directed source line kind e = directed_by source line kind (directive_in source line.tokens) refl e
