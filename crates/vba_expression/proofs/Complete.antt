-- What a fitting tree spells is read.
use Rattle.std.proofs.Common.{◌≡◌, ℕ, suc, ◌<◌, ◌≤◌, false, List, [], ◌∷◌, ◌++◌, Option, Some, None, refl, ap, ◌∙◌, arith, append_assoc}
use Rattle.std.specs.Prelude.{nat_lt, ◌&&◌, option_map}
use Rattle.std.proofs.lemmas.Bool.{le-ltb, lt-ltb}
use Rattle.vba_lexer.specs.declared.token.Token.{Token}
use Rattle.vba_lexer.specs.declared.number.TypeSuffix.{TypeSuffix}
use Rattle.vba_words.specs.declared.identifier.Identifier.{Identifier}
use Rattle.vba_words.specs.declared.keyword.Keyword.TheVariants as keyword
use Rattle.vba_words.specs.declared.mark.Mark.TheVariants as mark
use Rattle.vba_words.specs.declared.reading.ReadToken.{ReadToken}
use Rattle.vba_expression.specs.declared.operator.UnaryOperator.{UnaryOperator}
use Rattle.vba_expression.specs.declared.operator.UnaryOperator.TheVariants as unary_op
use Rattle.vba_expression.specs.declared.operator.BinaryOperator.{BinaryOperator}
use Rattle.vba_expression.specs.declared.operator.BinaryOperator.TheVariants as op
use Rattle.vba_expression.specs.declared.tree.LiteralValue.{LiteralValue}
use Rattle.vba_expression.specs.declared.tree.LiteralValue.TheVariants as value
use Rattle.vba_expression.specs.declared.tree.TypeQualifier.{TypeQualifier}
use Rattle.vba_expression.specs.declared.part.Part.TheVariants as part
use Rattle.vba_expression.specs.Tree.{Expr, literal, me, name, with_member, member, index, parenthesised, new, type_of, unary, binary, Args, no_args, missing, plain, named}
use Rattle.vba_words.specs.Spelling.{read, word, marked, naming}
use Rattle.vba_expression.specs.Spelling.{literal_reading, unary_reading, binary_reading, type_name_tokens, comma_tokens, spell, spell_args}
use Rattle.vba_expression.specs.Fitting.{unary_level, binary_level, level, is_none, is_lone, CommaFits, HasPlainNames, has_short_type, Fits, FitsArgs}
use Rattle.vba_expression.specs.Parts.{part_of}
use Rattle.vba_expression.specs.Reader.{Head, behind, Frame, whole, right_operand, unary_operand, inner, type_of_operand, argument, named_argument, State, want, have, new_wanted, class_wanted, room, reduce, loosest, short_type, new_behind_dot, type_of_behind_dot, behind_dot, last_missing, operated, next_argument, closed, unless_suffixed, after, step, next, run}
use Rattle.vba_expression.proofs.Reducing.{binary_small, binary_positive, unary_small, chosen_false, chosen_true}

-- a literal, and an operator, is the part that it is read as
pub literal_part : (t : Token) (v : LiteralValue) → part_of (read t (literal_reading v)) ≡ part.Literal v
literal_part t (value.Number number is_plain) = refl
literal_part t (value.Text text) = refl
literal_part t value.True = refl
literal_part t value.False = refl
literal_part t value.Nothing = refl
literal_part t value.Null = refl
literal_part t value.Empty = refl

pub binary_part : (t : Token) (o : BinaryOperator) → part_of (read t (binary_reading o)) ≡ part.Operator o
binary_part t op.Power = refl
binary_part t op.Multiply = refl
binary_part t op.Divide = refl
binary_part t op.IntegerDivide = refl
binary_part t op.Modulo = refl
binary_part t op.Add = refl
binary_part t op.Subtract = refl
binary_part t op.Join = refl
binary_part t op.Equal = refl
binary_part t op.NotEqual = refl
binary_part t op.Less = refl
binary_part t op.Greater = refl
binary_part t op.LessEqual = refl
binary_part t op.GreaterEqual = refl
binary_part t op.Is = refl
binary_part t op.And = refl
binary_part t op.Or = refl
binary_part t op.Xor = refl
binary_part t op.Eqv = refl
binary_part t op.Imp = refl

-- where the reader is behind a tree: at its last primary
abbrev pub peak : Expr → List Frame → Expr × List Frame
peak (unary u t e) fs = peak e (unary_operand u t ∷ fs)
peak (binary a o t b) fs = peak b (right_operand a o t ∷ fs)
peak e fs = (e, fs)

abbrev pub at : Expr × List Frame → State
at p = have p.0 p.1

abbrev pub reduced : ℕ → Expr × List Frame → Expr × List Frame
reduced k p = reduce k p.0 p.1

pub level_small : (e : Expr) → level e < 15
level_small (unary u t e) = omega (arith, unary_small u)
level_small (binary a o t b) = binary_small o
level_small primary = omega arith

-- no unary operator has this level
abbrev pub NotUnary : ℕ → Type 0
NotUnary k = (u : UnaryOperator) → k ≡ unary_level u → ⊥

pub binary_not_unary : (o : BinaryOperator) → NotUnary (binary_level o)
binary_not_unary o unary_op.Minus h = absurd (minus o h)
  where
    minus : (p : BinaryOperator) → binary_level p ≡ 2 → ⊥
    minus op.Power h = omega arith
    minus other h = omega arith
binary_not_unary o unary_op.Not h = absurd (no o h)
  where
    no : (p : BinaryOperator) → binary_level p ≡ 9 → ⊥
    no op.Power h = omega arith
    no other h = omega arith

pub loosest_not_unary : NotUnary loosest
loosest_not_unary u h = omega (arith, unary_small u)

pub reduce_stops : (k : ℕ) (e : Expr) (fs : List Frame) → NotUnary k → k < room fs → reduce k e fs ≡ (e, fs)
reduce_stops k e [] ok h = refl
reduce_stops k e (whole limit ∷ fs) ok h = refl
reduce_stops k e (right_operand a o t ∷ fs) ok h = chosen_true (nat_lt k (binary_level o)) _ _ (lt-ltb k (binary_level o) h)
reduce_stops k e (unary_operand u t ∷ fs) ok h = chosen_true (nat_lt k (suc (unary_level u))) _ _ (lt-ltb k (suc (unary_level u)) h)
reduce_stops k e (inner left ∷ fs) ok h = refl
reduce_stops k e (type_of_operand w ∷ fs) ok h = refl
reduce_stops k e (argument head before comma ∷ fs) ok h = refl
reduce_stops k e (named_argument head before comma identifier colon_equal ∷ fs) ok h = refl

pub unwinds : (e : Expr) (k : ℕ) (fs : List Frame) → NotUnary k → level e ≤ k → Fits e → reduced k (peak e fs) ≡ reduce k e fs
unwinds (literal l) k fs ok h w = refl
unwinds (me t) k fs ok h w = refl
unwinds (name x) k fs ok h w = refl
unwinds (with_member d x) k fs ok h w = refl
unwinds (member e d x) k fs ok h w = refl
unwinds (index e l xs r) k fs ok h w = refl
unwinds (parenthesised l e r) k fs ok h w = refl
unwinds (new t class) k fs ok h w = refl
unwinds (type_of t e i class) k fs ok h w = refl
unwinds (unary u t e) k fs ok h w =
    let le : level e ≤ k = omega (arith, w.0) in
    unwinds e k (unary_operand u t ∷ fs) ok le w.1
    ∙ chosen_false (nat_lt k (suc (unary_level u))) (e, unary_operand u t ∷ fs) (reduce k (unary u t e) fs)
    (le-ltb k (suc (unary_level u)) (omega (arith, ok u)))
unwinds (binary a o t b) k fs ok h w =
    let le : level b ≤ k = omega (arith, w.1) in
    unwinds b k (right_operand a o t ∷ fs) ok le w.3
    ∙ chosen_false (nat_lt k (binary_level o)) (b, right_operand a o t ∷ fs) (reduce k (binary a o t b) fs) (le-ltb k (binary_level o) h)

pub primary : (e : Expr) (fs : List Frame) → level e ≡ 0 → peak e fs ≡ (e, fs)
primary (unary unary_op.Minus t e) fs h = absurd (omega arith)
primary (unary unary_op.Not t e) fs h = absurd (omega arith)
primary (binary a o t b) fs h = absurd (omega (arith, binary_positive o))
primary (literal l) fs h = refl
primary (me t) fs h = refl
primary (name x) fs h = refl
primary (with_member d x) fs h = refl
primary (member e d x) fs h = refl
primary (index e l xs r) fs h = refl
primary (parenthesised l e r) fs h = refl
primary (new t class) fs h = refl
primary (type_of t e i class) fs h = refl

pub stepped : (s s1 : State) (t : ReadToken) (ts : List ReadToken) → step s t ≡ Some s1 → run s (t ∷ ts) ≡ run s1 ts
stepped s s1 t ts e = ap (λ o. next o (λ s2. run s2 ts) (s, t ∷ ts)) e

pub refused : (s : State) (t : ReadToken) (ts : List ReadToken) → step s t ≡ None → run s (t ∷ ts) ≡ (s, t ∷ ts)
refused s t ts e = ap (λ o. next o (λ s2. run s2 ts) (s, t ∷ ts)) e

-- an operator behind the operand that it ends
pub operates : (e : Expr) (fs : List Frame) (o : BinaryOperator) (t : Token) → binary_level o < room fs
    → operated e fs o t ≡ Some (want (right_operand e o t ∷ fs))
operates e [] o t h = chosen_true (nat_lt (binary_level o) 15) _ _ (lt-ltb (binary_level o) 15 h)
operates e (whole limit ∷ fs) o t h = chosen_true (nat_lt (binary_level o) limit) _ _ (lt-ltb (binary_level o) limit h)
operates e (right_operand a p u ∷ fs) o t h =
    chosen_true (nat_lt (binary_level o) (binary_level p)) _ _ (lt-ltb (binary_level o) (binary_level p) h)
operates e (unary_operand p u ∷ fs) o t h =
    chosen_true (nat_lt (binary_level o) (suc (unary_level p))) _ _ (lt-ltb (binary_level o) (suc (unary_level p)) h)
operates e (inner left ∷ fs) o t h = chosen_true (nat_lt (binary_level o) 15) _ _ (lt-ltb (binary_level o) 15 h)
operates e (type_of_operand w ∷ fs) o t h = absurd (omega (arith, binary_positive o))
operates e (argument head before comma ∷ fs) o t h = chosen_true (nat_lt (binary_level o) 15) _ _ (lt-ltb (binary_level o) 15 h)
operates e (named_argument head before comma identifier colon_equal ∷ fs) o t h =
    chosen_true (nat_lt (binary_level o) 15) _ _ (lt-ltb (binary_level o) 15 h)

-- where the reader is behind so many arguments
abbrev pub at_args : Args → Head → List Frame → State
at_args no_args h fs = want (argument h no_args None ∷ fs)
at_args (missing before comma) h fs = want (argument h before comma ∷ fs)
at_args (plain before comma e) h fs = at (peak e (argument h before comma ∷ fs))
at_args (named before comma x g e) h fs = at (peak e (named_argument h before comma x g ∷ fs))

-- an operand in brackets is whole at a comma and at the closing one
pub bracketed : (e : Expr) (fs : List Frame) → Fits e → loosest < room fs → reduced loosest (peak e fs) ≡ (e, fs)
bracketed e fs w h =
    unwinds e loosest fs loosest_not_unary (omega (arith, level_small e)) w ∙ reduce_stops loosest e fs loosest_not_unary h

after_comma : (xs : Args) (c : Option Token) (h : Head) (fs : List Frame) (rest : List ReadToken) → FitsArgs xs → CommaFits xs c
    → run (at_args xs h fs) (comma_tokens c ++ rest) ≡ run (want (argument h xs c ∷ fs)) rest
after_comma no_args None h fs rest w c = refl
after_comma no_args (Some t) h fs rest w c = absurd c
after_comma (missing before comma) None h fs rest w c = absurd c
after_comma (plain before comma e) None h fs rest w c = absurd c
after_comma (named before comma x g e) None h fs rest w c = absurd c
after_comma (missing before comma) (Some t) h fs rest w c = refl
after_comma (plain before comma e) (Some t) h fs rest w c =
    stepped (at (peak e (argument h before comma ∷ fs))) _ (marked t mark.Comma) rest
    (ap (λ p. next_argument p.0 p.1 t) (bracketed e (argument h before comma ∷ fs) w.2 (omega arith)))
after_comma (named before comma x g e) (Some t) h fs rest w c =
    stepped (at (peak e (named_argument h before comma x g ∷ fs))) _ (marked t mark.Comma) rest
    (ap (λ p. next_argument p.0 p.1 t) (bracketed e (named_argument h before comma x g ∷ fs) w.2 (omega arith)))

pub last_is : (xs : Args) (c : Option Token) → CommaFits xs c → is_lone (missing xs c) ≡ false → last_missing xs c ≡ missing xs c
last_is xs (Some t) c h = refl
last_is no_args None c h = absurd cc
last_is (missing before comma) None c h = absurd c
last_is (plain before comma e) None c h = absurd c
last_is (named before comma x g e) None c h = absurd c

after_close : (xs : Args) (f : Expr) (l r : Token) (fs : List Frame) → FitsArgs xs → is_lone xs ≡ false
    → step (at_args xs (behind f l) fs) (marked r mark.RightParenthesis) ≡ Some (have (index f l xs r) fs)
after_close no_args f l r fs w h = refl
after_close (missing before comma) f l r fs w h = ap (λ xs. Some (have (index f l xs r) fs)) (last_is before comma w.1 h)
after_close (plain before comma e) f l r fs w h =
    ap (λ p. closed p.0 p.1 r) (bracketed e (argument (behind f l) before comma ∷ fs) w.2 (omega arith))
after_close (named before comma x g e) f l r fs w h =
    ap (λ p. closed p.0 p.1 r) (bracketed e (named_argument (behind f l) before comma x g ∷ fs) w.2 (omega arith))

-- a dot and a name behind what they don't belong to
is_member : (e : Expr) (d : Token) (x : Identifier) → (has_short_type e && is_none x.suffix) ≡ false → behind_dot e d x ≡ member e d x
is_member (new t class) d x h = with_class class.qualifier class.name x.suffix h
  where
    with_class : (q : Option TypeQualifier) (n : Identifier) (s : Option TypeSuffix) → (is_none q && is_none s) ≡ false
        → new_behind_dot t q n d x s ≡ member (new t (record { qualifier = q; name = n })) d x
    with_class None n None h = absurd cc
    with_class None n (Some s) h = refl
    with_class (Some q) n s h = refl
is_member (type_of t e i class) d x h = with_class class.qualifier class.name x.suffix h
  where
    with_class : (q : Option TypeQualifier) (n : Identifier) (s : Option TypeSuffix) → (is_none q && is_none s) ≡ false
        → type_of_behind_dot t e i q n d x s ≡ member (type_of t e i (record { qualifier = q; name = n })) d x
    with_class None n None h = absurd cc
    with_class None n (Some s) h = refl
    with_class (Some q) n s h = refl
is_member (literal l) d x h = refl
is_member (me t) d x h = refl
is_member (name y) d x h = refl
is_member (with_member c y) d x h = refl
is_member (member e c y) d x h = refl
is_member (index e l xs r) d x h = refl
is_member (parenthesised l e r) d x h = refl
is_member (unary u t e) d x h = refl
is_member (binary a o t b) d x h = refl

-- a type is read behind New, and behind the Is of TypeOf
reads_new : (t : Token) (q : Option TypeQualifier) (n : Identifier) (fs : List Frame) (rest : List ReadToken)
    → HasPlainNames (record { qualifier = q; name = n })
    → run (new_wanted t fs) (type_name_tokens (record { qualifier = q; name = n }) ++ rest)
    ≡ run (have (new t (record { qualifier = q; name = n })) fs) rest
reads_new t None n fs rest w =
    stepped (new_wanted t fs) (have (new t (short_type n)) fs) (naming n) rest (ap (λ s. option_map (λ x. have (new t (short_type x)) fs) (unless_suffixed s n)) w.0)
reads_new t (Some q) n fs rest w =
    stepped (new_wanted t fs) (have (new t (short_type q.name)) fs) (naming q.name) (marked q.dot mark.Dot ∷ naming n ∷ rest)
    (ap (λ s. option_map (λ x. have (new t (short_type x)) fs) (unless_suffixed s q.name)) w.1)
    ∙ ap (λ s. run (have (new_behind_dot t None q.name q.dot n s) fs) rest) w.0

reads_class : (t : Token) (e : Expr) (i : Token) (q : Option TypeQualifier) (n : Identifier) (fs : List Frame) (rest : List ReadToken)
    → HasPlainNames (record { qualifier = q; name = n })
    → run (class_wanted t e i fs) (type_name_tokens (record { qualifier = q; name = n }) ++ rest)
    ≡ run (have (type_of t e i (record { qualifier = q; name = n })) fs) rest
reads_class t e i None n fs rest w =
    stepped (class_wanted t e i fs) (have (type_of t e i (short_type n)) fs) (naming n) rest
    (ap (λ s. option_map (λ x. have (type_of t e i (short_type x)) fs) (unless_suffixed s n)) w.0)
reads_class t e i (Some q) n fs rest w =
    stepped (class_wanted t e i fs) (have (type_of t e i (short_type q.name)) fs) (naming q.name) (marked q.dot mark.Dot ∷ naming n ∷ rest)
    (ap (λ s. option_map (λ x. have (type_of t e i (short_type x)) fs) (unless_suffixed s q.name)) w.1)
    ∙ ap (λ s. run (have (type_of_behind_dot t e i None q.name q.dot n s) fs) rest) w.0

operand_there : (u : UnaryOperator) (t : Token) (fs : List Frame) → unary_level u < room fs
    → step (want fs) (read t (unary_reading u)) ≡ Some (want (unary_operand u t ∷ fs))
operand_there unary_op.Minus t fs h = chosen_true (nat_lt 2 (room fs)) _ _ (lt-ltb 2 (room fs) h)
operand_there unary_op.Not t fs h = chosen_true (nat_lt 9 (room fs)) _ _ (lt-ltb 9 (room fs) h)

mutual
  pub reads : (e : Expr) (fs : List Frame) (rest : List ReadToken) → level e < room fs → Fits e
      → run (want fs) (spell e ++ rest) ≡ run (at (peak e fs)) rest
  reads (literal l) fs rest h w =
      stepped (want fs) (have (literal l) fs) (read l.token (literal_reading l.value)) rest (ap (after (want fs) l.token) (literal_part l.token l.value))
  reads (me t) fs rest h w = refl
  reads (name x) fs rest h w = refl
  reads (with_member d x) fs rest h w = refl
  reads (member e d x) fs rest h w =
      ap (run (want fs)) (append_assoc (spell e) (marked d mark.Dot ∷ naming x ∷ []) rest)
      ∙ (reads e fs (marked d mark.Dot ∷ naming x ∷ rest) (omega (arith, w.0)) w.1
      ∙ (ap (λ p. run (at p) (marked d mark.Dot ∷ naming x ∷ rest)) (primary e fs w.0)
      ∙ ap (λ m. run (have m fs) rest) (is_member e d x w.2)))
  reads (index f l xs r) fs rest h w =
      ap (run (want fs)) (append_assoc (spell f) (marked l mark.LeftParenthesis ∷ (spell_args xs ++ marked r mark.RightParenthesis ∷ [])) rest)
      ∙ (reads f fs (marked l mark.LeftParenthesis ∷ ((spell_args xs ++ marked r mark.RightParenthesis ∷ []) ++ rest)) (omega (arith, w.0)) w.1
      ∙ (ap (λ p. run (at p) (marked l mark.LeftParenthesis ∷ ((spell_args xs ++ marked r mark.RightParenthesis ∷ []) ++ rest))) (primary f fs w.0)
      ∙ (ap (run (want (argument (behind f l) no_args None ∷ fs))) (append_assoc (spell_args xs) (marked r mark.RightParenthesis ∷ []) rest)
      ∙ (reads_args xs (behind f l) fs (marked r mark.RightParenthesis ∷ rest) w.2
      ∙ stepped (at_args xs (behind f l) fs) (have (index f l xs r) fs) (marked r mark.RightParenthesis) rest (after_close xs f l r fs w.2 w.3)))))
  reads (parenthesised l e r) fs rest h w =
      ap (run (want (inner l ∷ fs))) (append_assoc (spell e) (marked r mark.RightParenthesis ∷ []) rest)
      ∙ (reads e (inner l ∷ fs) (marked r mark.RightParenthesis ∷ rest) (level_small e) w
      ∙ stepped (at (peak e (inner l ∷ fs))) (have (parenthesised l e r) fs) (marked r mark.RightParenthesis) rest
      (ap (λ p. closed p.0 p.1 r) (bracketed e (inner l ∷ fs) w (omega arith))))
  reads (new t class) fs rest h w = reads_new t class.qualifier class.name fs rest w
  reads (type_of t e i class) fs rest h w =
      ap (run (want (type_of_operand t ∷ fs))) (append_assoc (spell e) (word i keyword.Is ∷ type_name_tokens class) rest)
      ∙ (reads e (type_of_operand t ∷ fs) (word i keyword.Is ∷ (type_name_tokens class ++ rest)) (omega (arith, w.0)) w.1
      ∙ (ap (λ p. run (at p) (word i keyword.Is ∷ (type_name_tokens class ++ rest))) (primary e (type_of_operand t ∷ fs) w.0)
      ∙ reads_class t e i class.qualifier class.name fs rest w.2))
  reads (unary u t e) fs rest h w =
      stepped (want fs) (want (unary_operand u t ∷ fs)) (read t (unary_reading u)) (spell e ++ rest) (operand_there u t fs h)
      ∙ reads e (unary_operand u t ∷ fs) rest (omega (arith, w.0)) w.1
  reads (binary a o t b) fs rest h w =
      let la : level a < room fs = omega (arith, w.0) in
      ap (run (want fs)) (append_assoc (spell a) (read t (binary_reading o) ∷ spell b) rest)
      ∙ (reads a fs (read t (binary_reading o) ∷ (spell b ++ rest)) la w.2
      ∙ (stepped (at (peak a fs)) (want (right_operand a o t ∷ fs)) (read t (binary_reading o)) (spell b ++ rest)
      (ap (after (at (peak a fs)) t) (binary_part t o)
      ∙ (ap (λ p. operated p.0 p.1 o t)
      (unwinds a (binary_level o) fs (binary_not_unary o) w.0 w.2 ∙ reduce_stops (binary_level o) a fs (binary_not_unary o) h)
      ∙ operates a fs o t h))
      ∙ reads b (right_operand a o t ∷ fs) rest w.1 w.3))

  pub reads_args : (xs : Args) (h : Head) (fs : List Frame) (rest : List ReadToken) → FitsArgs xs
      → run (want (argument h no_args None ∷ fs)) (spell_args xs ++ rest) ≡ run (at_args xs h fs) rest
  reads_args no_args h fs rest w = refl
  reads_args (missing before comma) h fs rest w =
      ap (run (want (argument h no_args None ∷ fs))) (append_assoc (spell_args before) (comma_tokens comma) rest)
      ∙ (reads_args before h fs (comma_tokens comma ++ rest) w.0 ∙ after_comma before comma h fs rest w.0 w.1)
  reads_args (plain before comma e) h fs rest w =
      ap (run (want (argument h no_args None ∷ fs)))
      (append_assoc (spell_args before) (comma_tokens comma ++ spell e) rest
      ∙ ap (λ ts. spell_args before ++ ts) (append_assoc (comma_tokens comma) (spell e) rest))
      ∙ (reads_args before h fs (comma_tokens comma ++ (spell e ++ rest)) w.0
      ∙ (after_comma before comma h fs (spell e ++ rest) w.0 w.1
      ∙ reads e (argument h before comma ∷ fs) rest (level_small e) w.2))
  reads_args (named before comma x g e) h fs rest w =
      ap (run (want (argument h no_args None ∷ fs)))
      (append_assoc (spell_args before) (comma_tokens comma ++ naming x ∷ marked g mark.ColonEqual ∷ spell e) rest
      ∙ ap (λ ts. spell_args before ++ ts) (append_assoc (comma_tokens comma) (naming x ∷ marked g mark.ColonEqual ∷ spell e) rest))
      ∙ (reads_args before h fs (comma_tokens comma ++ (naming x ∷ marked g mark.ColonEqual ∷ (spell e ++ rest))) w.0
      ∙ (after_comma before comma h fs (naming x ∷ marked g mark.ColonEqual ∷ (spell e ++ rest)) w.0 w.1
      ∙ reads e (named_argument h before comma x g ∷ fs) rest (level_small e) w.2))
