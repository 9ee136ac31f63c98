-- Ending operands in two steps.
use Rattle.std.proofs.Common.{◌≡◌, ℕ, suc, ◌<◌, Bool, true, false, List, [], ◌∷◌, refl, sym, ap, ◌∙◌, arith}
use Rattle.std.specs.Prelude.{nat_lt, if◌then◌else◌}
use Rattle.std.proofs.lemmas.Bool.{le-ltb, cond_both}
use Rattle.vba_expression.specs.declared.operator.UnaryOperator.{UnaryOperator}
use Rattle.vba_expression.specs.declared.operator.UnaryOperator.TheVariants as unary_op
use Rattle.vba_expression.specs.declared.operator.BinaryOperator.{BinaryOperator}
use Rattle.vba_expression.specs.declared.operator.BinaryOperator.TheVariants as op
use Rattle.vba_expression.specs.Tree.{Expr, unary, binary}
use Rattle.vba_expression.specs.Fitting.{unary_level, binary_level}
use Rattle.vba_expression.specs.Reader.{Frame, whole, right_operand, unary_operand, inner, type_of_operand, argument, named_argument, have, reduce, stays_open, operation, settled, loosest}

-- levels lie between 1 and 14
pub binary_small : (o : BinaryOperator) → binary_level o < 15
binary_small op.Power = omega arith
binary_small other = omega arith

pub binary_positive : (o : BinaryOperator) → 0 < binary_level o
binary_positive op.Power = omega arith
binary_positive other = omega arith

pub unary_small : (u : UnaryOperator) → unary_level u < 14
unary_small unary_op.Minus = omega arith
unary_small unary_op.Not = omega arith

pub chosen_false : {A : Type 0} (b : Bool) (x y : A) → b ≡ false → (if b then x else y) ≡ y
chosen_false b x y e = ap (λ c. if c then x else y) e

pub chosen_true : {A : Type 0} (b : Bool) (x y : A) → b ≡ true → (if b then x else y) ≡ x
chosen_true b x y e = ap (λ c. if c then x else y) e

-- where the operand on top goes on, nothing ends
pub reduce_stays : (k : ℕ) (e : Expr) (fs : List Frame) → stays_open k fs ≡ true → reduce k e fs ≡ (e, fs)
reduce_stays k e [] h = refl
reduce_stays k e (right_operand a o t ∷ fs) h = chosen_true (nat_lt k (binary_level o)) _ _ h
reduce_stays k e (unary_operand u t ∷ fs) h = chosen_true (nat_lt k (suc (unary_level u))) _ _ h
reduce_stays k e (whole limit ∷ fs) h = refl
reduce_stays k e (inner left ∷ fs) h = refl
reduce_stays k e (type_of_operand word ∷ fs) h = refl
reduce_stays k e (argument head before comma ∷ fs) h = refl
reduce_stays k e (named_argument head before comma identifier colon_equal ∷ fs) h = refl

-- else the operation on top ends, and then the rest
pub reduce_ends : (k : ℕ) (e : Expr) (f : Frame) (fs : List Frame) → stays_open k (f ∷ fs) ≡ false → reduce k e (f ∷ fs) ≡ reduce k (operation f e) fs
reduce_ends k e (right_operand a o t) fs h = chosen_false (nat_lt k (binary_level o)) _ _ h
reduce_ends k e (unary_operand u t) fs h = chosen_false (nat_lt k (suc (unary_level u))) _ _ h
reduce_ends k e other fs h = let e : true ≡ false = h in absurd cc

-- ending what is as tight as a level, and then the rest, ends all
pub reduce_again : (k : ℕ) (e : Expr) (fs : List Frame) → (let p = reduce k e fs in reduce loosest p.0 p.1) ≡ reduce loosest e fs
reduce_again k e [] = refl
reduce_again k e (right_operand a o t ∷ fs) =
    cond_both (nat_lt k (binary_level o)) (e, right_operand a o t ∷ fs) (reduce k (binary a o t e) fs)
    (λ p. reduce loosest p.0 p.1 ≡ reduce loosest e (right_operand a o t ∷ fs))
    (λ _. refl)
    (λ _. reduce_again k (binary a o t e) fs
    ∙ sym (chosen_false (nat_lt loosest (binary_level o)) _ _ (le-ltb loosest (binary_level o) (omega (arith, binary_small o)))))
reduce_again k e (unary_operand u t ∷ fs) =
    cond_both (nat_lt k (suc (unary_level u))) (e, unary_operand u t ∷ fs) (reduce k (unary u t e) fs)
    (λ p. reduce loosest p.0 p.1 ≡ reduce loosest e (unary_operand u t ∷ fs))
    (λ _. refl)
    (λ _. reduce_again k (unary u t e) fs
    ∙ sym (chosen_false (nat_lt loosest (suc (unary_level u))) _ _ (le-ltb loosest (suc (unary_level u)) (omega (arith, unary_small u)))))
reduce_again k e (whole limit ∷ fs) = refl
reduce_again k e (inner left ∷ fs) = refl
reduce_again k e (type_of_operand word ∷ fs) = refl
reduce_again k e (argument head before comma ∷ fs) = refl
reduce_again k e (named_argument head before comma identifier colon_equal ∷ fs) = refl

pub settled_again : (k : ℕ) (e e1 : Expr) (fs fs1 : List Frame) → (e1, fs1) ≡ reduce k e fs → settled (have e1 fs1) ≡ settled (have e fs)
settled_again k e e1 fs fs1 h =
    ap (λ p. let q = reduce loosest p.0 p.1 in have q.0 q.1) h ∙ ap (λ q. have q.0 q.1) (reduce_again k e fs)
