-- How a reading goes on and ends.
use Rattle.std.proofs.Common.{◌≡◌, ℕ, true, false, ◌≤◌, length, arith, List, [], ◌∷◌, Option, Some, None, refl, ap, ◌∙◌}
use Rattle.std.specs.Prelude.{if◌then◌else◌}
use Rattle.vba_lexer.specs.declared.token.Token.{Token}
use Rattle.cond_compile.specs.Advances.{read_from}
use Rattle.cond_compile.specs.Evaluation.{Constant, Operand, of_leaf, values}
use Rattle.cond_compile.specs.Expressions.{Leaf}
use Rattle.cond_compile.specs.declared.operator.Operator.TheVariants as op
use Rattle.cond_compile.specs.Pieces as piece
use Rattle.cond_compile.specs.Pieces.{Piece, is_then, pieces_behind}
use Rattle.cond_compile.specs.Reader.{Making, Frame, Waiting, WithMember, NewObject, Member, TypeName, want, waited, State, Want, Name, Have, Wait, step, next, run, finish, with_rest, reading_of, before_then, BeforeThen, Other}

pub goes_on : {A : Type 0} (m : Making A) (l : Leaf → A) (s t : State A) (p : Piece) (ps : List Piece)
    → step m l s p ≡ Some t → read_from m l s (p ∷ ps) ≡ read_from m l t ps
goes_on m l s t p ps e = ap (λ o. let r = next o (λ u. run m l u ps) (s, p ∷ ps) in with_rest r.1 (finish m l r.0)) e

-- what can't be read leaves the state
stuck : {A : Type 0} (m : Making A) (l : Leaf → A) (s : State A) (p : Piece) (ps : List Piece)
    → step m l s p ≡ None → read_from m l s (p ∷ ps) ≡ with_rest (p ∷ ps) (finish m l s)
stuck m l s p ps e = ap (λ o. let r = next o (λ u. run m l u ps) (s, p ∷ ps) in with_rest r.1 (finish m l r.0)) e

other_behind : {A : Type 0} (p : Piece) (ps : List Piece) (o : Option A) → is_then p ≡ false → reading_of (with_rest (p ∷ ps) o) ≡ Other
other_behind p ps None e = refl
other_behind p [] (Some x) e = ap (λ b. if b then BeforeThen x else Other) e
other_behind p (q ∷ ps) (Some x) e = refl

pub ends_stuck : {A : Type 0} (m : Making A) (l : Leaf → A) (s : State A) (p : Piece) (ps : List Piece)
    → step m l s p ≡ None → is_then p ≡ false → reading_of (read_from m l s (p ∷ ps)) ≡ Other
ends_stuck m l s p ps e other = ap reading_of (stuck m l s p ps e) ∙ other_behind p ps (finish m l s) other

-- nothing takes Then
then_stuck : {A : Type 0} (m : Making A) (l : Leaf → A) (s : State A) (p : Piece) → is_then p ≡ true → step m l s p ≡ None
then_stuck m l (Want fs) piece.then_ e = refl
then_stuck m l (Name n fs) piece.then_ e = refl
then_stuck m l (Have x fs) piece.then_ e = refl
then_stuck m l (Wait w fs) piece.then_ e = refl
then_stuck m l s p e = absurd cc

at_then : {A : Type 0} (p : Piece) (o : Option A) → is_then p ≡ true → reading_of (with_rest (p ∷ []) o) ≡ before_then o
at_then p None e = refl
at_then p (Some x) e = ap (λ b. if b then BeforeThen x else Other) e

more_behind : {A : Type 0} (p q : Piece) (ps : List Piece) (o : Option A) → reading_of (with_rest (p ∷ q ∷ ps) o) ≡ Other
more_behind p q ps None = refl
more_behind p q ps (Some x) = refl

pub ends_at_then : {A : Type 0} (m : Making A) (l : Leaf → A) (s : State A) (p : Piece)
    → is_then p ≡ true → reading_of (read_from m l s (p ∷ [])) ≡ before_then (finish m l s)
ends_at_then m l s p e = ap reading_of (stuck m l s p [] (then_stuck m l s p e)) ∙ at_then p (finish m l s) e

pub then_goes_on : {A : Type 0} (m : Making A) (l : Leaf → A) (s : State A) (p q : Piece) (ps : List Piece)
    → is_then p ≡ true → reading_of (read_from m l s (p ∷ q ∷ ps)) ≡ Other
then_goes_on m l s p q ps e = ap reading_of (stuck m l s p (q ∷ ps) (then_stuck m l s p e)) ∙ more_behind p q ps (finish m l s)

-- tokens behind a Then
pub then_not_last : {A : Type 0} (m : Making A) (l : Leaf → A) (s : State A) (p : Piece) (source : List ℕ) (token : Token) (rest : List Token)
    → is_then p ≡ true → 1 ≤ length rest → reading_of (read_from m l s (p ∷ pieces_behind source token rest)) ≡ Other
then_not_last m l s p source token [] e long = absurd (omega (arith, long))
then_not_last m l s p source token (other ∷ rest) e long = then_goes_on m l s p _ _ e

-- where an operand is wanted a name is not looked up
pub want_any : (cs : List Constant) (fs : List (Frame (Option Operand))) (p : Piece) → want values (of_leaf cs) fs p ≡ want values (of_leaf []) fs p
want_any cs fs (piece.operator op.Minus) = refl
want_any cs fs p = refl

-- what a name ends has no value
pub waited_none : (w : Waiting (Option Operand)) (n : List ℕ) → waited values w n ≡ None
waited_none (WithMember apart) n = refl
waited_none NewObject n = refl
waited_none (Member e) n = refl
waited_none (TypeName e) n = refl
