-- Serves the code: reading an expression token by token, over whatever its parts are made into.
use Rattle.std.specs.Prelude.{ℕ, suc, nat_lt, Bool, true, false, List, [], ◌∷◌, Option, Some, None, if◌then◌else◌}
use Rattle.cond_compile.specs.declared.operator.Operator.{Operator}
use Rattle.cond_compile.specs.declared.operator.Operator.TheVariants as op
use Rattle.cond_compile.specs.declared.operator.Prefix.{Prefix}
use Rattle.cond_compile.specs.declared.operator.Prefix.TheVariants as prefixes
use Rattle.cond_compile.specs.Expressions as tree
use Rattle.cond_compile.specs.Expressions.{Expression, Leaf, operator_level, prefix_level}
use Rattle.cond_compile.specs.Pieces as piece
use Rattle.cond_compile.specs.Pieces.{Piece}

-- what each part of an expression but its leaves is made into
pub record Making (A : Type 0) : Type 0 where
  pub with_member : Bool → List ℕ → A
  pub new_object : List ℕ → A
  pub paren : A → A
  pub member : A → List ℕ → A
  pub index : A → A → A
  pub type_test : A → List ℕ → A
  pub prefixed : Prefix → A → A
  pub binary : Operator → A → A → A
  pub missing : A
  pub named : List ℕ → A → A
  pub list : A → A → A

-- trees
abbrev pub trees : Making Expression
trees = record {
  with_member = tree.with_member;
  new_object = tree.new_object;
  paren = tree.paren;
  member = tree.member;
  index = tree.index;
  type_test = tree.type_test;
  prefixed = tree.prefixed;
  binary = tree.binary;
  missing = tree.missing;
  named = tree.named;
  list = tree.list;
}

-- what waits for an operand or a bracket
pub data Frame (A : Type 0) : Type 0 where
  Binary : Operator → A → Frame A
  Prefixed : Prefix → Frame A
  Paren : Frame A
  Index : A → Frame A
  TypeTest : Frame A
  Named : List ℕ → Frame A
  Listed : A → Frame A

-- what waits for a name
pub data Waiting (A : Type 0) : Type 0 where
  WithMember : Bool → Waiting A
  NewObject : Waiting A
  Member : A → Waiting A
  TypeName : A → Waiting A

-- an operand is wanted, or one is there: a bare name, another one; or a name is wanted
pub data State (A : Type 0) : Type 0 where
  Want : List (Frame A) → State A
  Name : List ℕ → List (Frame A) → State A
  Have : A → List (Frame A) → State A
  Wait : Waiting A → List (Frame A) → State A

-- an operand inside a frame has a level below this one
abbrev pub frame_room : {A : Type 0} → Frame A → ℕ
frame_room (Binary o a) = operator_level o
frame_room (Prefixed p) = suc (prefix_level p)
frame_room Paren = 15
frame_room (Index f) = 17
frame_room TypeTest = 1
frame_room (Named n) = 15
frame_room (Listed xs) = 16

abbrev pub room : {A : Type 0} → List (Frame A) → ℕ
room [] = 15
room (f ∷ fs) = frame_room f

-- what stands behind an operand of a level ends all that is as tight or tighter; a bracket waits for its end
abbrev pub reduce : {A : Type 0} → Making A → ℕ → A → List (Frame A) → A × List (Frame A)
reduce m k e [] = (e, [])
reduce m k e (Binary o a ∷ fs) = if nat_lt k (operator_level o) then (e, Binary o a ∷ fs) else reduce m k (m.binary o a e) fs
reduce m k e (Prefixed p ∷ fs) = if nat_lt k (suc (prefix_level p)) then (e, Prefixed p ∷ fs) else reduce m k (m.prefixed p e) fs
reduce m k e (Named n ∷ fs) = if nat_lt k 15 then (e, Named n ∷ fs) else reduce m k (m.named n e) fs
reduce m k e (Listed xs ∷ fs) = if nat_lt k 16 then (e, Listed xs ∷ fs) else reduce m k (m.list xs e) fs
reduce m k e (Paren ∷ fs) = (e, Paren ∷ fs)
reduce m k e (Index f ∷ fs) = (e, Index f ∷ fs)
reduce m k e (TypeTest ∷ fs) = (e, TypeTest ∷ fs)

-- an operand is wanted inside a frame, where what is round it has room for the frame's level
abbrev pub opened : {A : Type 0} → ℕ → Frame A → List (Frame A) → Option (State A)
opened k f fs = if nat_lt k (room fs) then Some (Want (f ∷ fs)) else None

-- Is ends what TypeOf tests
abbrev pub tested : {A : Type 0} → Operator → A → List (Frame A) → Option (State A)
tested op.Is e fs = Some (Wait (TypeName e) fs)
tested o e fs = None

-- an operator behind its left operand
abbrev pub operated : {A : Type 0} → Operator → A → List (Frame A) → Option (State A)
operated o e (TypeTest ∷ fs) = tested o e fs
operated o e fs = opened (operator_level o) (Binary o e) fs

-- a closing bracket behind what it ends
abbrev pub closed : {A : Type 0} → Making A → A → List (Frame A) → Option (State A)
closed m e (Paren ∷ fs) = Some (Have (m.paren e) fs)
closed m e (Index f ∷ fs) = Some (Have (m.index f e) fs)
closed m e fs = None

abbrev pub at_operator : {A : Type 0} → Making A → Operator → A → List (Frame A) → Option (State A)
at_operator m o e fs = let p = reduce m (operator_level o) e fs in operated o p.0 p.1

abbrev pub at_comma : {A : Type 0} → Making A → A → List (Frame A) → Option (State A)
at_comma m e fs = let p = reduce m 16 e fs in opened 16 (Listed p.0) p.1

abbrev pub at_right : {A : Type 0} → Making A → A → List (Frame A) → Option (State A)
at_right m e fs = let p = reduce m 16 e fs in closed m p.0 p.1

-- an argument may be missing where arguments are wanted
abbrev pub if_argument : {A : Type 0} → List (Frame A) → Option (State A) → Option (State A)
if_argument fs next = if nat_lt 15 (room fs) then next else None

-- where an operand is wanted
abbrev pub want : {A : Type 0} → Making A → (Leaf → A) → List (Frame A) → Piece → Option (State A)
want m l fs (piece.literal value) = Some (Have (l (tree.literal value)) fs)
want m l fs (piece.name n) = Some (Name n fs)
want m l fs piece.me = Some (Have (l tree.me) fs)
want m l fs (piece.operator op.Minus) = opened 2 (Prefixed prefixes.Minus) fs
want m l fs piece.not_ = opened 9 (Prefixed prefixes.Not) fs
want m l fs piece.new_ = Some (Wait NewObject fs)
want m l fs piece.type_of = Some (Want (TypeTest ∷ fs))
want m l fs piece.left = Some (Want (Paren ∷ fs))
want m l fs piece.right = if_argument fs (at_right m m.missing fs)
want m l fs piece.comma = if_argument fs (at_comma m m.missing fs)
want m l fs piece.dot = Some (Wait (WithMember false) fs)
want m l fs piece.apart_dot = Some (Wait (WithMember true) fs)
want m l fs p = None

-- behind an operand
abbrev pub have : {A : Type 0} → Making A → A → List (Frame A) → Piece → Option (State A)
have m e fs (piece.operator o) = at_operator m o e fs
have m e fs piece.left = Some (Want (Index e ∷ fs))
have m e fs piece.right = at_right m e fs
have m e fs piece.comma = at_comma m e fs
have m e fs piece.dot = Some (Wait (Member e) fs)
have m e fs p = None

-- behind a bare name: it may name an argument
abbrev pub behind_name : {A : Type 0} → Making A → (Leaf → A) → List ℕ → List (Frame A) → Piece → Option (State A)
behind_name m l n fs piece.gets = opened 15 (Named n) fs
behind_name m l n fs p = have m (l (tree.name n)) fs p

-- the operand that a name ends
abbrev pub waited : {A : Type 0} → Making A → Waiting A → List ℕ → A
waited m (WithMember apart) n = m.with_member apart n
waited m NewObject n = m.new_object n
waited m (Member e) n = m.member e n
waited m (TypeName e) n = m.type_test e n

abbrev pub wait : {A : Type 0} → Making A → Waiting A → List (Frame A) → Piece → Option (State A)
wait m w fs (piece.name n) = Some (Have (waited m w n) fs)
wait m w fs p = None

abbrev pub step : {A : Type 0} → Making A → (Leaf → A) → State A → Piece → Option (State A)
step m l (Want fs) p = want m l fs p
step m l (Name n fs) p = behind_name m l n fs p
step m l (Have e fs) p = have m e fs p
step m l (Wait w fs) p = wait m w fs p

abbrev pub next : {A B : Type 0} → Option (State A) → (State A → B) → B → B
next (Some s) f d = f s
next None f d = d

-- as far as tokens can be read, and what is left
abbrev pub run : {A : Type 0} → Making A → (Leaf → A) → State A → List Piece → State A × List Piece
run m l s [] = (s, [])
run m l s (p ∷ ps) = next (step m l s p) (λ t. run m l t ps) (s, p ∷ ps)

abbrev pub whole : {A : Type 0} → A → List (Frame A) → Option A
whole e [] = Some e
whole e (f ∷ fs) = None

abbrev pub finish : {A : Type 0} → Making A → (Leaf → A) → State A → Option A
finish m l (Have e fs) = let p = reduce m 14 e fs in whole p.0 p.1
finish m l (Name n fs) = let p = reduce m 14 (l (tree.name n)) fs in whole p.0 p.1
finish m l (Want fs) = None
finish m l (Wait w fs) = None

abbrev pub with_rest : {A : Type 0} → List Piece → Option A → Option (A × List Piece)
with_rest ps None = None
with_rest ps (Some e) = Some (e, ps)

-- the expression at the front, as long as it can be, and what stands behind it
abbrev pub read : {A : Type 0} → Making A → (Leaf → A) → List Piece → Option (A × List Piece)
read m l ps = let r = run m l (Want []) ps in with_rest r.1 (finish m l r.0)

-- an expression and how its line goes on: it ends, or it has Then and ends; or neither, or there is no expression
pub data Reading (A : Type 0) : Type 0 where
  ToEnd : A → Reading A
  BeforeThen : A → Reading A
  Other : Reading A

abbrev pub goes_on : {A : Type 0} → List Piece → A → Reading A
goes_on [] e = ToEnd e
goes_on (p ∷ []) e = if piece.is_then p then BeforeThen e else Other
goes_on (p ∷ q ∷ ps) e = Other

abbrev pub reading_of : {A : Type 0} → Option (A × List Piece) → Reading A
reading_of None = Other
reading_of (Some found) = goes_on found.1 found.0

-- what was found before a Then that is the last token
abbrev pub before_then : {A : Type 0} → Option A → Reading A
before_then None = Other
before_then (Some e) = BeforeThen e

-- the tree of the expression at the front
abbrev pub expression_at : List Piece → Option (Expression × List Piece)
expression_at ps = read trees tree.leaf ps
