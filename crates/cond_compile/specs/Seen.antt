-- Serves the code: what contracts see of the reader's parts.
use Rattle.std.specs.Prelude.{◌≡◌, ℕ, List, [], ◌∷◌, length, map, reverse, All, Option, Some, None, option_map}
use Rattle.vba_lexer.specs.Inside.{IsWithin}
use Rattle.vba_values.specs.View.{view}
use Rattle.cond_compile.specs.declared.arm.Arm.{Arm}
use Rattle.cond_compile.specs.declared.arm.Enclosing.{Enclosing}
use Rattle.cond_compile.specs.declared.directive.Directive.{Directive}
use Rattle.cond_compile.specs.declared.select.Progress.{Progress}
use Rattle.cond_compile.specs.declared.frame.Frame.{Frame}
use Rattle.cond_compile.specs.declared.frame.Frame.TheVariants as frame
use Rattle.cond_compile.specs.declared.frame.Mode.{Mode}
use Rattle.cond_compile.specs.declared.frame.Mode.TheVariants as mode
use Rattle.cond_compile.specs.declared.frame.Waiting.{Waiting}
use Rattle.cond_compile.specs.declared.frame.Waiting.TheVariants as waiting
use Rattle.cond_compile.specs.declared.operand.Constant.{Constant}
use Rattle.cond_compile.specs.declared.operand.Operand.{Operand}
use Rattle.cond_compile.specs.declared.piece.Piece.{Piece}
use Rattle.cond_compile.specs.declared.piece.Piece.TheVariants as token
use Rattle.cond_compile.specs.declared.reader.Reading.{Reading}
use Rattle.cond_compile.specs.declared.reader.Reading.TheVariants as readings
use Rattle.cond_compile.specs.Evaluation as evaluation
use Rattle.cond_compile.specs.Evaluation.{value_of}
use Rattle.cond_compile.specs.Expressions.{Expression}
use Rattle.cond_compile.specs.Pieces as piece
use Rattle.cond_compile.specs.Reader as reader
use Rattle.cond_compile.specs.Selection as selection

abbrev pub operand_view : Operand → evaluation.Operand
operand_view operand = record { value = view operand.value; variant = operand.variant }

abbrev pub outcome_view : Option Operand → Option evaluation.Operand
outcome_view None = None
outcome_view (Some operand) = Some (operand_view operand)

abbrev pub constant_view : Constant → evaluation.Constant
constant_view constant = record { name = constant.name; value = view constant.value }

-- the latest one is the last
abbrev pub constants_view : List Constant → List evaluation.Constant
constants_view constants = reverse (map constant_view constants)

abbrev pub piece_view : Piece → piece.Piece
piece_view (token.Literal value) = piece.literal (option_map view value)
piece_view (token.Name n) = piece.name n
piece_view token.Me = piece.me
piece_view (token.Operator o) = piece.operator o
piece_view token.Not = piece.not_
piece_view token.New = piece.new_
piece_view token.TypeOf = piece.type_of
piece_view token.Left = piece.left
piece_view token.Right = piece.right
piece_view token.Comma = piece.comma
piece_view token.Dot = piece.dot
piece_view token.ApartDot = piece.apart_dot
piece_view token.Gets = piece.gets
piece_view token.Then = piece.then_
piece_view token.Other = piece.other

abbrev pub Outcome : Type 0
Outcome = Option evaluation.Operand

abbrev pub frame_view : Frame → reader.Frame Outcome
frame_view (frame.Binary o left) = reader.Binary o (outcome_view left)
frame_view (frame.Prefixed p) = reader.Prefixed p
frame_view frame.Paren = reader.Paren
frame_view (frame.Index f) = reader.Index (outcome_view f)
frame_view frame.TypeTest = reader.TypeTest
frame_view (frame.Named n) = reader.Named n
frame_view (frame.Listed xs) = reader.Listed (outcome_view xs)

-- the last one is on top
abbrev pub stack : List Frame → List (reader.Frame Outcome)
stack frames = reverse (map frame_view frames)

abbrev pub waiting_view : Waiting → reader.Waiting Outcome
waiting_view (waiting.WithMember apart) = reader.WithMember apart
waiting_view waiting.NewObject = reader.NewObject
waiting_view (waiting.Member e) = reader.Member (outcome_view e)
waiting_view (waiting.TypeName e) = reader.TypeName (outcome_view e)

abbrev pub state : Mode → List Frame → reader.State Outcome
state mode.Want frames = reader.Want (stack frames)
state (mode.Name n) frames = reader.Name n (stack frames)
state (mode.Have e) frames = reader.Have (outcome_view e) (stack frames)
state (mode.Wait w) frames = reader.Wait (waiting_view w) (stack frames)

-- the reader goes on so, or it can't take the token
abbrev pub Means : Option (reader.State Outcome) → List Frame → Option Mode → Type 0
Means meant frames None = meant ≡ None
Means meant frames (Some m) = meant ≡ Some (state m frames)

abbrev pub reading_view : Reading → reader.Reading Outcome
reading_view (readings.ToEnd e) = reader.ToEnd (outcome_view e)
reading_view (readings.BeforeThen e) = reader.BeforeThen (outcome_view e)
reading_view readings.Other = reader.Other

abbrev pub directive_view : Directive → selection.Directive
directive_view directive = record { kind = directive.kind; last = directive.last; rest = directive.rest.now }

-- the tokens of a directive line lie in the source
pub record DirectiveLiesIn (source : List ℕ) (directive : Directive) : Type 0 where
  pub last : IsWithin (length source) directive.last
  pub rest : All (IsWithin (length source)) directive.rest.now

-- the innermost arm is the last
abbrev pub arms_view : List Enclosing → List Arm
arms_view enclosing = map (λ e. e.arm) (reverse enclosing)

-- each of them tells whether its `#If` stands on kept ground; the innermost is the first
abbrev pub Told : List Enclosing → Type 0
Told [] = Unit {0}
Told (e ∷ enclosing) = (e.outer ≡ selection.is_kept (map (λ e. e.arm) enclosing)) × Told enclosing

abbrev pub AreTold : List Enclosing → Type 0
AreTold enclosing = Told (reverse enclosing)

-- what stands round a line
abbrev pub standing_view : Progress → selection.Ground
standing_view progress = record { constants = constants_view progress.constants.items; arms = arms_view progress.arms.items }

-- a reading with the value of its tree
abbrev pub reading_values : List evaluation.Constant → reader.Reading Expression → reader.Reading Outcome
reading_values constants (reader.ToEnd e) = reader.ToEnd (value_of constants e)
reading_values constants (reader.BeforeThen e) = reader.BeforeThen (value_of constants e)
reading_values constants reader.Other = reader.Other
