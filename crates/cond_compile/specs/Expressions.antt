-- Expressions: their trees, what they spell, and which fit.
use Rattle.std.specs.Prelude.{◌≡◌, ℕ, ◌<◌, ◌≤◌, Bool, true, false, List, [], ◌∷◌, ◌++◌, Option}
use Rattle.vba_values.specs.Val.{Val}
use Rattle.cond_compile.specs.declared.operator.Operator.{Operator}
use Rattle.cond_compile.specs.declared.operator.Operator.TheVariants as op
use Rattle.cond_compile.specs.declared.operator.Prefix.{Prefix}
use Rattle.cond_compile.specs.declared.operator.Prefix.TheVariants as prefixes
use Rattle.cond_compile.specs.Pieces as piece
use Rattle.cond_compile.specs.Pieces.{Piece}

-- a literal, a name, Me
pub data Leaf : Type 0 where
  literal : Option Val → Leaf
  name : List ℕ → Leaf
  me : Leaf

-- arguments are trees too: one that is missing, one that is named, and a list with one more argument
pub data Expression : Type 0 where
  leaf : Leaf → Expression
  with_member : Bool → List ℕ → Expression
  new_object : List ℕ → Expression
  paren : Expression → Expression
  member : Expression → List ℕ → Expression
  index : Expression → Expression → Expression
  type_test : Expression → List ℕ → Expression
  prefixed : Prefix → Expression → Expression
  binary : Operator → Expression → Expression → Expression
  missing : Expression
  named : List ℕ → Expression → Expression
  list : Expression → Expression → Expression

abbrev pub leaf_piece : Leaf → Piece
leaf_piece (literal value) = piece.literal value
leaf_piece (name n) = piece.name n
leaf_piece me = piece.me

-- the dot of a With block's member, with white space before it or without
abbrev pub dot_piece : Bool → Piece
dot_piece true = piece.apart_dot
dot_piece false = piece.dot

abbrev pub prefix_piece : Prefix → Piece
prefix_piece prefixes.Minus = piece.operator op.Minus
prefix_piece prefixes.Not = piece.not_

-- the tokens of a tree
abbrev pub spelling : Expression → List Piece
spelling (leaf l) = leaf_piece l ∷ []
spelling (with_member apart n) = dot_piece apart ∷ piece.name n ∷ []
spelling (new_object n) = piece.new_ ∷ piece.name n ∷ []
spelling (paren e) = piece.left ∷ (spelling e ++ piece.right ∷ [])
spelling (member e n) = spelling e ++ piece.dot ∷ piece.name n ∷ []
spelling (index f xs) = spelling f ++ piece.left ∷ (spelling xs ++ piece.right ∷ [])
spelling (type_test e n) = piece.type_of ∷ (spelling e ++ piece.operator op.Is ∷ piece.name n ∷ [])
spelling (prefixed p e) = prefix_piece p ∷ spelling e
spelling (binary o a b) = spelling a ++ piece.operator o ∷ spelling b
spelling missing = []
spelling (named n e) = piece.name n ∷ piece.gets ∷ spelling e
spelling (list xs x) = spelling xs ++ piece.comma ∷ spelling x

-- the levels of operators, the tightest first
abbrev pub operator_level : Operator → ℕ
operator_level op.Power = 1
operator_level op.Times = 3
operator_level op.Divide = 3
operator_level op.IntDivide = 4
operator_level op.Mod = 5
operator_level op.Plus = 6
operator_level op.Minus = 6
operator_level op.Join = 7
operator_level op.Equal = 8
operator_level op.Unequal = 8
operator_level op.Less = 8
operator_level op.LessEqual = 8
operator_level op.Greater = 8
operator_level op.GreaterEqual = 8
operator_level op.Is = 8
operator_level op.And = 10
operator_level op.Or = 11
operator_level op.Xor = 12
operator_level op.Eqv = 13
operator_level op.Imp = 14

abbrev pub prefix_level : Prefix → ℕ
prefix_level prefixes.Minus = 2
prefix_level prefixes.Not = 9

abbrev pub level : Expression → ℕ
level (prefixed p e) = prefix_level p
level (binary o a b) = operator_level o
level missing = 15
level (named n e) = 15
level (list xs x) = 16
level e = 0

-- a left operand is of its operator's level or tighter, a right one is tighter, the operand of Not and of minus of its level or tighter
abbrev pub Fits : Expression → Type 0
Fits (leaf l) = Unit {0}
Fits (with_member apart n) = Unit {0}
Fits (new_object n) = Unit {0}
Fits (paren e) = (level e ≤ 14) × Fits e
Fits (member e n) = (level e ≤ 0) × Fits e
Fits (index f xs) = (level f ≤ 0) × Fits f × Fits xs
Fits (type_test e n) = (level e ≤ 0) × Fits e
Fits (prefixed p e) = (level e ≤ prefix_level p) × Fits e
Fits (binary o a b) = (level a ≤ operator_level o) × (level b < operator_level o) × Fits a × Fits b
Fits missing = Unit {0}
Fits (named n e) = (level e ≤ 14) × Fits e
Fits (list xs x) = (level x ≤ 15) × Fits xs × Fits x

-- a tree is an expression, and the tokens are its tokens and the rest
pub record Spells (pieces rest : List Piece) (e : Expression) : Type 0 where
  pub same : pieces ≡ spelling e ++ rest
  pub fits : Fits e
  pub whole : level e ≤ 14
