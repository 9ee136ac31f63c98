-- What a fitting tree spells is read.
use Rattle.std.proofs.Common.{◌≡◌, ℕ, suc, ◌<◌, ◌≤◌, Bool, true, false, List, [], ◌∷◌, ◌++◌, Option, Some, None, refl, ap, ◌∙◌, arith, append_assoc}
use Rattle.std.specs.Prelude.{nat_lt, if◌then◌else◌}
use Rattle.std.proofs.lemmas.Bool.{le-ltb, lt-ltb}
use Rattle.cond_compile.specs.declared.operator.Operator.{Operator}
use Rattle.cond_compile.specs.declared.operator.Operator.TheVariants as op
use Rattle.cond_compile.specs.declared.operator.Prefix.{Prefix}
use Rattle.cond_compile.specs.declared.operator.Prefix.TheVariants as prefixes
use Rattle.cond_compile.specs.Expressions.{Expression, leaf, with_member, new_object, paren, member, index, type_test, prefixed, binary, missing, named, list, literal, name, me, spelling, operator_level, prefix_level, prefix_piece, level, Fits, Spells}
use Rattle.cond_compile.specs.Pieces as piece
use Rattle.cond_compile.specs.Pieces.{Piece}
use Rattle.cond_compile.specs.Reader.{Frame, Binary, Prefixed, Paren, Index, TypeTest, Named, Listed, Member, TypeName, State, Want, Name, Have, Wait, room, reduce, opened, operated, closed, step, next, run, whole, finish, with_rest, trees, ToEnd, BeforeThen, reading_of, expression_at}

abbrev pub Frames : Type 0
Frames = List (Frame Expression)

abbrev pub Pieces : Type 0
Pieces = List Piece

abbrev pub steps : State Expression → Piece → Option (State Expression)
steps s p = step trees leaf s p

abbrev pub runs : State Expression → Pieces → State Expression × Pieces
runs s ps = run trees leaf s ps

-- where the reader is behind a tree: at its last part
abbrev pub behind : Expression → Frames → State Expression
behind (prefixed p e) fs = behind e (Prefixed p ∷ fs)
behind (binary o a b) fs = behind b (Binary o a ∷ fs)
behind (named n e) fs = behind e (Named n ∷ fs)
behind (list xs x) fs = behind x (Listed xs ∷ fs)
behind missing fs = Want fs
behind (leaf (name n)) fs = Name n fs
behind e fs = Have e fs

-- the operand there, with all that a level ends
abbrev pub ended : ℕ → State Expression → Expression × Frames
ended k (Have e fs) = reduce trees k e fs
ended k (Name n fs) = reduce trees k (leaf (name n)) fs
ended k (Want fs) = reduce trees k missing fs
ended k (Wait w fs) = (missing, fs)

pub operator_le : (o : Operator) → operator_level o ≤ 14
operator_le op.Power = omega arith
operator_le op.Times = omega arith
operator_le op.Divide = omega arith
operator_le op.IntDivide = omega arith
operator_le op.Mod = omega arith
operator_le op.Plus = omega arith
operator_le op.Minus = omega arith
operator_le op.Join = omega arith
operator_le op.Equal = omega arith
operator_le op.Unequal = omega arith
operator_le op.Less = omega arith
operator_le op.LessEqual = omega arith
operator_le op.Greater = omega arith
operator_le op.GreaterEqual = omega arith
operator_le op.Is = omega arith
operator_le op.And = omega arith
operator_le op.Or = omega arith
operator_le op.Xor = omega arith
operator_le op.Eqv = omega arith
operator_le op.Imp = omega arith

-- no prefix operator has this level, and it is one of an operator at least
pub record OfOperators (k : ℕ) : Type 0 where
  pub no_minus : k ≡ 2 → ⊥
  pub no_not : k ≡ 9 → ⊥
  pub above : 1 ≤ k

pub of_operator : (o : Operator) → OfOperators (operator_level o)
of_operator op.Power = record { no_minus = λ e. omega arith; no_not = λ e. omega arith; above = omega arith }
of_operator op.Times = record { no_minus = λ e. omega arith; no_not = λ e. omega arith; above = omega arith }
of_operator op.Divide = record { no_minus = λ e. omega arith; no_not = λ e. omega arith; above = omega arith }
of_operator op.IntDivide = record { no_minus = λ e. omega arith; no_not = λ e. omega arith; above = omega arith }
of_operator op.Mod = record { no_minus = λ e. omega arith; no_not = λ e. omega arith; above = omega arith }
of_operator op.Plus = record { no_minus = λ e. omega arith; no_not = λ e. omega arith; above = omega arith }
of_operator op.Minus = record { no_minus = λ e. omega arith; no_not = λ e. omega arith; above = omega arith }
of_operator op.Join = record { no_minus = λ e. omega arith; no_not = λ e. omega arith; above = omega arith }
of_operator op.Equal = record { no_minus = λ e. omega arith; no_not = λ e. omega arith; above = omega arith }
of_operator op.Unequal = record { no_minus = λ e. omega arith; no_not = λ e. omega arith; above = omega arith }
of_operator op.Less = record { no_minus = λ e. omega arith; no_not = λ e. omega arith; above = omega arith }
of_operator op.LessEqual = record { no_minus = λ e. omega arith; no_not = λ e. omega arith; above = omega arith }
of_operator op.Greater = record { no_minus = λ e. omega arith; no_not = λ e. omega arith; above = omega arith }
of_operator op.GreaterEqual = record { no_minus = λ e. omega arith; no_not = λ e. omega arith; above = omega arith }
of_operator op.Is = record { no_minus = λ e. omega arith; no_not = λ e. omega arith; above = omega arith }
of_operator op.And = record { no_minus = λ e. omega arith; no_not = λ e. omega arith; above = omega arith }
of_operator op.Or = record { no_minus = λ e. omega arith; no_not = λ e. omega arith; above = omega arith }
of_operator op.Xor = record { no_minus = λ e. omega arith; no_not = λ e. omega arith; above = omega arith }
of_operator op.Eqv = record { no_minus = λ e. omega arith; no_not = λ e. omega arith; above = omega arith }
of_operator op.Imp = record { no_minus = λ e. omega arith; no_not = λ e. omega arith; above = omega arith }

of_all : OfOperators 14
of_all = record { no_minus = λ e. omega arith; no_not = λ e. omega arith; above = omega arith }

of_lists : OfOperators 16
of_lists = record { no_minus = λ e. omega arith; no_not = λ e. omega arith; above = omega arith }

pub level_le : (e : Expression) → level e ≤ 16
level_le (leaf l) = omega arith
level_le (with_member apart n) = omega arith
level_le (new_object n) = omega arith
level_le (paren e) = omega arith
level_le (member e n) = omega arith
level_le (index f xs) = omega arith
level_le (type_test e n) = omega arith
level_le (prefixed prefixes.Minus e) = omega arith
level_le (prefixed prefixes.Not e) = omega arith
level_le (binary o a b) = omega (arith, operator_le o)
level_le missing = omega arith
level_le (named n e) = omega arith
level_le (list xs x) = omega arith

chosen_false : {A : Type 0} (b : Bool) (x y : A) → b ≡ false → (if b then x else y) ≡ y
chosen_false b x y e = ap (λ c. if c then x else y) e

chosen_true : {A : Type 0} (b : Bool) (x y : A) → b ≡ true → (if b then x else y) ≡ x
chosen_true b x y e = ap (λ c. if c then x else y) e

reduce_stops : (k : ℕ) (e : Expression) (fs : Frames) → k < room fs → reduce trees k e fs ≡ (e, fs)
reduce_stops k e [] h = refl
reduce_stops k e (Binary o a ∷ fs) h = chosen_true (nat_lt k (operator_level o)) _ _ (lt-ltb k (operator_level o) h)
reduce_stops k e (Prefixed p ∷ fs) h = chosen_true (nat_lt k (suc (prefix_level p))) _ _ (lt-ltb k (suc (prefix_level p)) h)
reduce_stops k e (Named n ∷ fs) h = chosen_true (nat_lt k 15) _ _ (lt-ltb k 15 h)
reduce_stops k e (Listed xs ∷ fs) h = chosen_true (nat_lt k 16) _ _ (lt-ltb k 16 h)
reduce_stops k e (Paren ∷ fs) h = refl
reduce_stops k e (Index f ∷ fs) h = refl
reduce_stops k e (TypeTest ∷ fs) h = refl

above_prefix : (p : Prefix) (k : ℕ) → OfOperators k → prefix_level p ≤ k → suc (prefix_level p) ≤ k
above_prefix prefixes.Minus k ok h = omega (arith, ok.no_minus)
above_prefix prefixes.Not k ok h = omega (arith, ok.no_not)

unwinds : (t : Expression) (k : ℕ) (fs : Frames) → OfOperators k → level t ≤ k → Fits t → ended k (behind t fs) ≡ reduce trees k t fs
unwinds (leaf (literal value)) k fs ok h w = refl
unwinds (leaf (name n)) k fs ok h w = refl
unwinds (leaf me) k fs ok h w = refl
unwinds (with_member apart n) k fs ok h w = refl
unwinds (new_object n) k fs ok h w = refl
unwinds (paren e) k fs ok h w = refl
unwinds (member e n) k fs ok h w = refl
unwinds (index f xs) k fs ok h w = refl
unwinds (type_test e n) k fs ok h w = refl
unwinds missing k fs ok h w = refl
unwinds (prefixed p e) k fs ok h w =
    let le : level e ≤ k = omega (arith, w.0) in
    unwinds e k (Prefixed p ∷ fs) ok le w.1
    ∙ chosen_false (nat_lt k (suc (prefix_level p))) (e, Prefixed p ∷ fs) (reduce trees k (prefixed p e) fs) (le-ltb k (suc (prefix_level p)) (above_prefix p k ok h))
unwinds (binary o a b) k fs ok h w =
    let le : level b ≤ k = omega (arith, w.1) in
    unwinds b k (Binary o a ∷ fs) ok le w.3
    ∙ chosen_false (nat_lt k (operator_level o)) (b, Binary o a ∷ fs) (reduce trees k (binary o a b) fs) (le-ltb k (operator_level o) h)
unwinds (named n e) k fs ok h w =
    let le : level e ≤ k = omega (arith, w.0) in
    unwinds e k (Named n ∷ fs) ok le w.1
    ∙ chosen_false (nat_lt k 15) (e, Named n ∷ fs) (reduce trees k (named n e) fs) (le-ltb k 15 h)
unwinds (list xs x) k fs ok h w =
    let le : level x ≤ k = omega (arith, w.0) in
    unwinds x k (Listed xs ∷ fs) ok le w.2
    ∙ chosen_false (nat_lt k 16) (x, Listed xs ∷ fs) (reduce trees k (list xs x) fs) (le-ltb k 16 h)

-- an operand is there
abbrev HasOperand : State Expression → Type 0
HasOperand (Want fs) = ⊥
HasOperand (Wait w fs) = ⊥
HasOperand (Name n fs) = Unit {0}
HasOperand (Have e fs) = Unit {0}

has_operand : (t : Expression) (fs : Frames) → level t ≤ 14 → Fits t → HasOperand (behind t fs)
has_operand (leaf (literal value)) fs h w = tt
has_operand (leaf (name n)) fs h w = tt
has_operand (leaf me) fs h w = tt
has_operand (with_member apart n) fs h w = tt
has_operand (new_object n) fs h w = tt
has_operand (paren e) fs h w = tt
has_operand (member e n) fs h w = tt
has_operand (index f xs) fs h w = tt
has_operand (type_test e n) fs h w = tt
has_operand missing fs h w = absurd (omega arith)
has_operand (prefixed p e) fs h w = let le : level e ≤ 14 = omega (arith, w.0) in has_operand e (Prefixed p ∷ fs) le w.1
has_operand (binary o a b) fs h w = let le : level b ≤ 14 = omega (arith, w.1) in has_operand b (Binary o a ∷ fs) le w.3
has_operand (named n e) fs h w = absurd (omega arith)
has_operand (list xs x) fs h w = absurd (omega arith)

-- an argument is there, or may be missing
abbrev CanEnd : State Expression → Type 0
CanEnd (Want fs) = 15 < room fs
CanEnd (Wait w fs) = ⊥
CanEnd (Name n fs) = Unit {0}
CanEnd (Have e fs) = Unit {0}

can_end : (t : Expression) (fs : Frames) → level t < room fs → Fits t → CanEnd (behind t fs)
can_end (leaf (literal value)) fs h w = tt
can_end (leaf (name n)) fs h w = tt
can_end (leaf me) fs h w = tt
can_end (with_member apart n) fs h w = tt
can_end (new_object n) fs h w = tt
can_end (paren e) fs h w = tt
can_end (member e n) fs h w = tt
can_end (index f xs) fs h w = tt
can_end (type_test e n) fs h w = tt
can_end missing fs h w = h
can_end (prefixed p e) fs h w = let lt : level e < suc (prefix_level p) = omega (arith, w.0) in can_end e (Prefixed p ∷ fs) lt w.1
can_end (binary o a b) fs h w = can_end b (Binary o a ∷ fs) w.1 w.3
can_end (named n e) fs h w = let lt : level e < 15 = omega (arith, w.0) in can_end e (Named n ∷ fs) lt w.1
can_end (list xs x) fs h w = let lt : level x < 16 = omega (arith, w.0) in can_end x (Listed xs ∷ fs) lt w.2

at_operator_is : (s : State Expression) (o : Operator) → HasOperand s
    → steps s (piece.operator o) ≡ (let p = ended (operator_level o) s in operated o p.0 p.1)
at_operator_is (Want fs) o h = absurd h
at_operator_is (Wait w fs) o h = absurd h
at_operator_is (Name n fs) o h = refl
at_operator_is (Have e fs) o h = refl

at_comma_is : (s : State Expression) → CanEnd s → steps s piece.comma ≡ (let p = ended 16 s in opened 16 (Listed p.0) p.1)
at_comma_is (Want fs) h = chosen_true (nat_lt 15 (room fs)) _ _ (lt-ltb 15 (room fs) h)
at_comma_is (Wait w fs) h = absurd h
at_comma_is (Name n fs) h = refl
at_comma_is (Have e fs) h = refl

at_right_is : (s : State Expression) → CanEnd s → steps s piece.right ≡ (let p = ended 16 s in closed trees p.0 p.1)
at_right_is (Want fs) h = chosen_true (nat_lt 15 (room fs)) _ _ (lt-ltb 15 (room fs) h)
at_right_is (Wait w fs) h = absurd h
at_right_is (Name n fs) h = refl
at_right_is (Have e fs) h = refl

opens : (k : ℕ) (f : Frame Expression) (fs : Frames) → k < room fs → opened k f fs ≡ Some (Want (f ∷ fs))
opens k f fs h = chosen_true (nat_lt k (room fs)) _ _ (lt-ltb k (room fs) h)

operates : (o : Operator) (a : Expression) (fs : Frames) → operator_level o < room fs → operated o a fs ≡ Some (Want (Binary o a ∷ fs))
operates o a (TypeTest ∷ fs) h = let ok = of_operator o in absurd (omega (arith, ok.above))
operates o a [] h = opens (operator_level o) (Binary o a) [] h
operates o a (Binary q b ∷ fs) h = opens (operator_level o) (Binary o a) (Binary q b ∷ fs) h
operates o a (Prefixed p ∷ fs) h = opens (operator_level o) (Binary o a) (Prefixed p ∷ fs) h
operates o a (Paren ∷ fs) h = opens (operator_level o) (Binary o a) (Paren ∷ fs) h
operates o a (Index f ∷ fs) h = opens (operator_level o) (Binary o a) (Index f ∷ fs) h
operates o a (Named n ∷ fs) h = opens (operator_level o) (Binary o a) (Named n ∷ fs) h
operates o a (Listed xs ∷ fs) h = opens (operator_level o) (Binary o a) (Listed xs ∷ fs) h

-- a primary goes on
at_dot : (e : Expression) (fs : Frames) → level e ≤ 0 → steps (behind e fs) piece.dot ≡ Some (Wait (Member e) fs)
at_dot (leaf (literal value)) fs h = refl
at_dot (leaf (name n)) fs h = refl
at_dot (leaf me) fs h = refl
at_dot (with_member apart n) fs h = refl
at_dot (new_object n) fs h = refl
at_dot (paren e) fs h = refl
at_dot (member e n) fs h = refl
at_dot (index f xs) fs h = refl
at_dot (type_test e n) fs h = refl
at_dot missing fs h = absurd (omega arith)
at_dot (prefixed prefixes.Minus e) fs h = absurd (omega arith)
at_dot (prefixed prefixes.Not e) fs h = absurd (omega arith)
at_dot (binary o a b) fs h = let ok = of_operator o in absurd (omega (arith, ok.above))
at_dot (named n e) fs h = absurd (omega arith)
at_dot (list xs x) fs h = absurd (omega arith)

at_left : (e : Expression) (fs : Frames) → level e ≤ 0 → steps (behind e fs) piece.left ≡ Some (Want (Index e ∷ fs))
at_left (leaf (literal value)) fs h = refl
at_left (leaf (name n)) fs h = refl
at_left (leaf me) fs h = refl
at_left (with_member apart n) fs h = refl
at_left (new_object n) fs h = refl
at_left (paren e) fs h = refl
at_left (member e n) fs h = refl
at_left (index f xs) fs h = refl
at_left (type_test e n) fs h = refl
at_left missing fs h = absurd (omega arith)
at_left (prefixed prefixes.Minus e) fs h = absurd (omega arith)
at_left (prefixed prefixes.Not e) fs h = absurd (omega arith)
at_left (binary o a b) fs h = let ok = of_operator o in absurd (omega (arith, ok.above))
at_left (named n e) fs h = absurd (omega arith)
at_left (list xs x) fs h = absurd (omega arith)

at_is : (e : Expression) (fs : Frames) → level e ≤ 0 → steps (behind e (TypeTest ∷ fs)) (piece.operator op.Is) ≡ Some (Wait (TypeName e) fs)
at_is (leaf (literal value)) fs h = refl
at_is (leaf (name n)) fs h = refl
at_is (leaf me) fs h = refl
at_is (with_member apart n) fs h = refl
at_is (new_object n) fs h = refl
at_is (paren e) fs h = refl
at_is (member e n) fs h = refl
at_is (index f xs) fs h = refl
at_is (type_test e n) fs h = refl
at_is missing fs h = absurd (omega arith)
at_is (prefixed prefixes.Minus e) fs h = absurd (omega arith)
at_is (prefixed prefixes.Not e) fs h = absurd (omega arith)
at_is (binary o a b) fs h = let ok = of_operator o in absurd (omega (arith, ok.above))
at_is (named n e) fs h = absurd (omega arith)
at_is (list xs x) fs h = absurd (omega arith)

stepped : (s t : State Expression) (p : Piece) (ps : Pieces) → steps s p ≡ Some t → runs s (p ∷ ps) ≡ runs t ps
stepped s t p ps e = ap (λ o. next o (λ u. run trees leaf u ps) (s, p ∷ ps)) e

opens_prefix : (p : Prefix) (fs : Frames) → prefix_level p < room fs → steps (Want fs) (prefix_piece p) ≡ Some (Want (Prefixed p ∷ fs))
opens_prefix prefixes.Minus fs h = opens 2 (Prefixed prefixes.Minus) fs h
opens_prefix prefixes.Not fs h = opens 9 (Prefixed prefixes.Not) fs h

closes : (e : Expression) (f : Frame Expression) (fs : Frames) (t : State Expression) → level e < room (f ∷ fs) → Fits e
    → reduce trees 16 e (f ∷ fs) ≡ (e, f ∷ fs) → closed trees e (f ∷ fs) ≡ Some t → steps (behind e (f ∷ fs)) piece.right ≡ Some t
closes e f fs t h w same c =
    at_right_is (behind e (f ∷ fs)) (can_end e (f ∷ fs) h w)
    ∙ (ap (λ p. closed trees p.0 p.1) (unwinds e 16 (f ∷ fs) of_lists (level_le e) w ∙ same) ∙ c)

pub reads : (t : Expression) (fs : Frames) (rest : Pieces) → level t < room fs → Fits t → runs (Want fs) (spelling t ++ rest) ≡ runs (behind t fs) rest
reads (leaf (literal value)) fs rest h w = refl
reads (leaf (name n)) fs rest h w = refl
reads (leaf me) fs rest h w = refl
reads (with_member true n) fs rest h w = refl
reads (with_member false n) fs rest h w = refl
reads (new_object n) fs rest h w = refl
reads missing fs rest h w = refl
reads (paren e) fs rest h w =
    let lt : level e < 15 = omega (arith, w.0) in
    ap (runs (Want (Paren ∷ fs))) (append_assoc (spelling e) (piece.right ∷ []) rest)
    ∙ (reads e (Paren ∷ fs) (piece.right ∷ rest) lt w.1
    ∙ stepped (behind e (Paren ∷ fs)) (Have (paren e) fs) piece.right rest (closes e Paren fs (Have (paren e) fs) lt w.1 refl refl))
reads (member e n) fs rest h w =
    let lt : level e < room fs = omega (arith, w.0) in
    ap (runs (Want fs)) (append_assoc (spelling e) (piece.dot ∷ piece.name n ∷ []) rest)
    ∙ (reads e fs (piece.dot ∷ piece.name n ∷ rest) lt w.1
    ∙ stepped (behind e fs) (Wait (Member e) fs) piece.dot (piece.name n ∷ rest) (at_dot e fs w.0))
reads (index f xs) fs rest h w =
    let lt : level f < room fs = omega (arith, w.0) in
    let lx : level xs < 17 = omega (arith, level_le xs) in
    ap (runs (Want fs)) (append_assoc (spelling f) (piece.left ∷ (spelling xs ++ piece.right ∷ [])) rest)
    ∙ (reads f fs (piece.left ∷ ((spelling xs ++ piece.right ∷ []) ++ rest)) lt w.1
    ∙ (stepped (behind f fs) (Want (Index f ∷ fs)) piece.left ((spelling xs ++ piece.right ∷ []) ++ rest) (at_left f fs w.0)
    ∙ (ap (runs (Want (Index f ∷ fs))) (append_assoc (spelling xs) (piece.right ∷ []) rest)
    ∙ (reads xs (Index f ∷ fs) (piece.right ∷ rest) lx w.2
    ∙ stepped (behind xs (Index f ∷ fs)) (Have (index f xs) fs) piece.right rest (closes xs (Index f) fs (Have (index f xs) fs) lx w.2 refl refl)))))
reads (type_test e n) fs rest h w =
    let lt : level e < 1 = omega (arith, w.0) in
    ap (runs (Want (TypeTest ∷ fs))) (append_assoc (spelling e) (piece.operator op.Is ∷ piece.name n ∷ []) rest)
    ∙ (reads e (TypeTest ∷ fs) (piece.operator op.Is ∷ piece.name n ∷ rest) lt w.1
    ∙ stepped (behind e (TypeTest ∷ fs)) (Wait (TypeName e) fs) (piece.operator op.Is) (piece.name n ∷ rest) (at_is e fs w.0))
reads (prefixed p e) fs rest h w =
    let lt : level e < suc (prefix_level p) = omega (arith, w.0) in
    stepped (Want fs) (Want (Prefixed p ∷ fs)) (prefix_piece p) (spelling e ++ rest) (opens_prefix p fs h)
    ∙ reads e (Prefixed p ∷ fs) rest lt w.1
reads (binary o a b) fs rest h w =
    let la : level a < room fs = omega (arith, w.0) in
    let l14 : level a ≤ 14 = omega (arith, w.0, operator_le o) in
    ap (runs (Want fs)) (append_assoc (spelling a) (piece.operator o ∷ spelling b) rest)
    ∙ (reads a fs (piece.operator o ∷ (spelling b ++ rest)) la w.2
    ∙ (stepped (behind a fs) (Want (Binary o a ∷ fs)) (piece.operator o) (spelling b ++ rest)
    (at_operator_is (behind a fs) o (has_operand a fs l14 w.2)
    ∙ (ap (λ p. operated o p.0 p.1) (unwinds a (operator_level o) fs (of_operator o) w.0 w.2 ∙ reduce_stops (operator_level o) a fs h)
    ∙ operates o a fs h))
    ∙ reads b (Binary o a ∷ fs) rest w.1 w.3))
reads (named n e) fs rest h w =
    let lt : level e < 15 = omega (arith, w.0) in
    stepped (Name n fs) (Want (Named n ∷ fs)) piece.gets (spelling e ++ rest) (opens 15 (Named n) fs h)
    ∙ reads e (Named n ∷ fs) rest lt w.1
reads (list xs x) fs rest h w =
    let lx : level xs < room fs = omega (arith, level_le xs) in
    let lt : level x < 16 = omega (arith, w.0) in
    ap (runs (Want fs)) (append_assoc (spelling xs) (piece.comma ∷ spelling x) rest)
    ∙ (reads xs fs (piece.comma ∷ (spelling x ++ rest)) lx w.1
    ∙ (stepped (behind xs fs) (Want (Listed xs ∷ fs)) piece.comma (spelling x ++ rest)
    (at_comma_is (behind xs fs) (can_end xs fs lx w.1)
    ∙ (ap (λ p. opened 16 (Listed p.0) p.1) (unwinds xs 16 fs of_lists (level_le xs) w.1 ∙ reduce_stops 16 xs fs h)
    ∙ opens 16 (Listed xs) fs h))
    ∙ reads x (Listed xs ∷ fs) rest lt w.2))

finish_is : (s : State Expression) → HasOperand s → finish trees leaf s ≡ (let p = ended 14 s in whole p.0 p.1)
finish_is (Want fs) h = absurd h
finish_is (Wait w fs) h = absurd h
finish_is (Name n fs) h = refl
finish_is (Have e fs) h = refl

finishes : (t : Expression) → level t ≤ 14 → Fits t → finish trees leaf (behind t []) ≡ Some t
finishes t h w = finish_is (behind t []) (has_operand t [] h w) ∙ ap (λ p. whole p.0 p.1) (unwinds t 14 [] of_all h w)

then_stuck : (s : State Expression) → steps s piece.then_ ≡ None
then_stuck (Want fs) = refl
then_stuck (Name n fs) = refl
then_stuck (Have e fs) = refl
then_stuck (Wait w fs) = refl

at_then : (s : State Expression) → runs s (piece.then_ ∷ []) ≡ (s, piece.then_ ∷ [])
at_then s = ap (λ o. next o (λ u. run trees leaf u []) (s, piece.then_ ∷ [])) (then_stuck s)

-- an expression that goes to the end is read
pub reads_to_end : (t : Expression) (ps : Pieces) → Spells ps [] t → reading_of (expression_at ps) ≡ ToEnd t
reads_to_end t ps s =
    let lt : level t < 15 = omega (arith, s.whole) in
    ap (λ qs. reading_of (expression_at qs)) s.same
    ∙ (ap (λ r. reading_of (with_rest r.1 (finish trees leaf r.0))) (reads t [] [] lt s.fits)
    ∙ ap (λ o. reading_of (with_rest [] o)) (finishes t s.whole s.fits))

-- an expression before Then is read
pub reads_before_then : (t : Expression) (ps : Pieces) → Spells ps (piece.then_ ∷ []) t → reading_of (expression_at ps) ≡ BeforeThen t
reads_before_then t ps s =
    let lt : level t < 15 = omega (arith, s.whole) in
    ap (λ qs. reading_of (expression_at qs)) s.same
    ∙ (ap (λ r. reading_of (with_rest r.1 (finish trees leaf r.0))) (reads t [] (piece.then_ ∷ []) lt s.fits ∙ at_then (behind t []))
    ∙ ap (λ o. reading_of (with_rest (piece.then_ ∷ []) o)) (finishes t s.whole s.fits))
