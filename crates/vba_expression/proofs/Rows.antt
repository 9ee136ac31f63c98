-- Expressions and arguments as they are read.
use Rattle.std.proofs.Common.{◌≡◌, refl, [], ◌∷◌, Some, None, true}
use Rattle.vba_lexer.specs.declared.token.Token.{Token}
use Rattle.vba_lexer.specs.declared.number.Number.{Number}
use Rattle.vba_lexer.specs.declared.number.TypeSuffix.TheVariants as suffix
use Rattle.vba_words.specs.declared.identifier.Identifier.{Identifier}
use Rattle.vba_words.specs.declared.keyword.Keyword.{Keyword}
use Rattle.vba_words.specs.declared.keyword.Keyword.TheVariants as keyword
use Rattle.vba_words.specs.declared.mark.Mark.{Mark}
use Rattle.vba_words.specs.declared.mark.Mark.TheVariants as mark
use Rattle.vba_words.specs.declared.reading.Reading.TheVariants as reading
use Rattle.vba_words.specs.declared.reading.ReadToken.{ReadToken}
use Rattle.vba_expression.specs.declared.operator.UnaryOperator.TheVariants as unary_op
use Rattle.vba_expression.specs.declared.operator.BinaryOperator.{BinaryOperator}
use Rattle.vba_expression.specs.declared.operator.BinaryOperator.TheVariants as op
use Rattle.vba_expression.specs.declared.tree.LiteralValue.TheVariants as value
use Rattle.vba_expression.specs.Tree.{Expr, literal, name, with_member, member, index, parenthesised, new, type_of, unary, binary, no_args, missing, plain, named}
use Rattle.vba_words.specs.Spelling.{read, word, marked, naming}
use Rattle.vba_expression.specs.Reader.{expression_at, arguments_at, short_type, long_type}

-- one token stands for all; names and numbers are any
module _ (t : Token) (a b c f g : Identifier) (one two three seven : Number) where
  abbrev m : Mark → ReadToken
  m meant = marked t meant

  abbrev w : Keyword → ReadToken
  w kept = word t kept

  abbrev n : Identifier → ReadToken
  n = naming

  -- a name without a suffix, and with one
  abbrev p : Identifier → Identifier
  p x = record { token = x.token; name = x.name; suffix = None; is_bracketed = x.is_bracketed }

  abbrev q : Identifier → Identifier
  q x = record { token = x.token; name = x.name; suffix = Some suffix.Text; is_bracketed = x.is_bracketed }

  abbrev d : Number → ReadToken
  d number = read t (reading.Number number true)

  abbrev num : Number → Expr
  num number = literal (record { token = t; value = value.Number number true })

  abbrev bin : BinaryOperator → Expr → Expr → Expr
  bin operator left right = binary left operator t right

  abbrev neg : Expr → Expr
  neg e = unary unary_op.Minus t e

  abbrev inv : Expr → Expr
  inv e = unary unary_op.Not t e

  abbrev minus : ReadToken
  minus = m mark.Minus

  abbrev plus : ReadToken
  plus = m mark.Plus

  abbrev times : ReadToken
  times = m mark.Times

  abbrev l : ReadToken
  l = m mark.LeftParenthesis

  abbrev r : ReadToken
  r = m mark.RightParenthesis

  abbrev comma : ReadToken
  comma = m mark.Comma

  abbrev dot : ReadToken
  dot = m mark.Dot

  -- `-a * b` is `(-a) * b`
  row1 : expression_at 15 (minus ∷ n a ∷ times ∷ n b ∷ []) ≡ Some (bin op.Multiply (neg (name a)) (name b), [])
  row1 = refl

  -- `Not 1 = 2` is `Not (1 = 2)`
  row2 : expression_at 15 (w keyword.Not ∷ d one ∷ m mark.Equal ∷ d two ∷ []) ≡ Some (inv (bin op.Equal (num one) (num two)), [])
  row2 = refl

  -- `-2 + 3 * 2`
  row3 : expression_at 15 (minus ∷ d two ∷ plus ∷ d three ∷ times ∷ d two ∷ [])
      ≡ Some (bin op.Add (neg (num two)) (bin op.Multiply (num three) (num two)), [])
  row3 = refl

  -- `7 \ 2 Mod 2` is `(7 \ 2) Mod 2`
  row4 : expression_at 15 (d seven ∷ m mark.Backslash ∷ d two ∷ w keyword.Mod ∷ d two ∷ [])
      ≡ Some (bin op.Modulo (bin op.IntegerDivide (num seven) (num two)) (num two), [])
  row4 = refl

  -- `a Mod b \ c` is `a Mod (b \ c)`
  row5 : expression_at 15 (n a ∷ w keyword.Mod ∷ n b ∷ m mark.Backslash ∷ n c ∷ [])
      ≡ Some (bin op.Modulo (name a) (bin op.IntegerDivide (name b) (name c)), [])
  row5 = refl

  -- `a - b - c` is `(a - b) - c`
  row6 : expression_at 15 (n a ∷ minus ∷ n b ∷ minus ∷ n c ∷ [])
      ≡ Some (bin op.Subtract (bin op.Subtract (name a) (name b)) (name c), [])
  row6 = refl

  -- `1 + -2` and `a And Not b` have a tree, `2 ^ -1` and `x = a = Not b` have none; `-a ^ b` is `-(a ^ b)`
  row7 : expression_at 15 (d one ∷ plus ∷ minus ∷ d two ∷ []) ≡ Some (bin op.Add (num one) (neg (num two)), [])
  row7 = refl

  row8 : expression_at 15 (n a ∷ w keyword.And ∷ w keyword.Not ∷ n b ∷ []) ≡ Some (bin op.And (name a) (inv (name b)), [])
  row8 = refl

  row9 : expression_at 15 (d two ∷ m mark.Caret ∷ minus ∷ d one ∷ []) ≡ None
  row9 = refl

  row10 : expression_at 15 (n a ∷ m mark.Equal ∷ w keyword.Not ∷ n b ∷ []) ≡ None
  row10 = refl

  row11 : expression_at 15 (minus ∷ n a ∷ m mark.Caret ∷ n b ∷ []) ≡ Some (neg (bin op.Power (name a) (name b)), [])
  row11 = refl

  -- `f (x)`: an index of f, and as an argument of a call statement a parenthesised expression
  row12 : expression_at 15 (n f ∷ l ∷ n a ∷ r ∷ []) ≡ Some (index (name f) t (plain no_args None (name a)) t, [])
  row12 = refl

  row13 : arguments_at (l ∷ n a ∷ r ∷ []) ≡ Some (plain no_args None (parenthesised t (name a) t), [])
  row13 = refl

  -- `f()` has no arguments, `f(,)` two that aren't written
  row14 : expression_at 15 (n f ∷ l ∷ r ∷ []) ≡ Some (index (name f) t no_args t, [])
  row14 = refl

  row15 : expression_at 15 (n f ∷ l ∷ comma ∷ r ∷ [])
      ≡ Some (index (name f) t (missing (missing no_args None) (Some t)) t, [])
  row15 = refl

  -- `f(a := 1, , b)`
  row16 : expression_at 15 (n f ∷ l ∷ n a ∷ m mark.ColonEqual ∷ d one ∷ comma ∷ comma ∷ n b ∷ r ∷ [])
      ≡ Some (index (name f) t (plain (missing (named no_args None a t (num one)) (Some t)) (Some t) (name b)) t, [])
  row16 = refl

  -- `TypeOf a Is b Is c` is `(TypeOf a Is b) Is c`, and `Is` behind no TypeOf is an operator
  row17 : expression_at 15 (w keyword.TypeOf ∷ n a ∷ w keyword.Is ∷ n (p b) ∷ w keyword.Is ∷ n c ∷ [])
      ≡ Some (bin op.Is (type_of t (name a) t (short_type (p b))) (name c), [])
  row17 = refl

  row18 : expression_at 15 (w keyword.TypeOf ∷ n a ∷ plus ∷ n b ∷ w keyword.Is ∷ n c ∷ []) ≡ None
  row18 = refl

  -- `New A.B.C` is `(New A.B).C`
  row19 : expression_at 15 (w keyword.New ∷ n (p a) ∷ dot ∷ n (p b) ∷ dot ∷ n c ∷ [])
      ≡ Some (member (new t (long_type (p a) t (p b))) t c, [])
  row19 = refl

  -- no type has a suffix: `New A$` has no tree, and in `New A.B$` the member is one of the object
  row19a : expression_at 15 (w keyword.New ∷ n (q a) ∷ []) ≡ None
  row19a = refl

  row19b : expression_at 15 (w keyword.New ∷ n (p a) ∷ dot ∷ n (q b) ∷ []) ≡ Some (member (new t (short_type (p a))) t (q b), [])
  row19b = refl

  row19c : expression_at 15 (w keyword.TypeOf ∷ n a ∷ w keyword.Is ∷ n (q b) ∷ []) ≡ None
  row19c = refl

  -- `TypeOf a Is b.c.f`
  row20 : expression_at 15 (w keyword.TypeOf ∷ n a ∷ w keyword.Is ∷ n (p b) ∷ dot ∷ n (p c) ∷ dot ∷ n f ∷ [])
      ≡ Some (member (type_of t (name a) t (long_type (p b) t (p c))) t f, [])
  row20 = refl

  -- `.f.g(1)` in a With block, and a dot of a With block goes on with nothing
  row21 : expression_at 15 (m mark.WithDot ∷ n f ∷ dot ∷ n g ∷ l ∷ d one ∷ r ∷ [])
      ≡ Some (index (member (with_member t f) t g) t (plain no_args None (num one)) t, [])
  row21 = refl

  row22 : expression_at 15 (n f ∷ m mark.WithDot ∷ n g ∷ []) ≡ Some (name f, m mark.WithDot ∷ n g ∷ [])
  row22 = refl

  -- a primary ends before an operator, and is as long as it can be: `f.g(1) = 2`
  row23 : expression_at 1 (n f ∷ dot ∷ n g ∷ l ∷ d one ∷ r ∷ m mark.Equal ∷ d two ∷ [])
      ≡ Some (index (member (name f) t g) t (plain no_args None (num one)) t, m mark.Equal ∷ d two ∷ [])
  row23 = refl

  -- the arguments of a call statement: none, two of which the second isn't written, and those before Else
  row24 : arguments_at [] ≡ Some (no_args, [])
  row24 = refl

  row25 : arguments_at (d one ∷ comma ∷ []) ≡ Some (missing (plain no_args None (num one)) (Some t), [])
  row25 = refl

  row26 : arguments_at (n a ∷ m mark.ColonEqual ∷ w keyword.Nothing ∷ w keyword.Else ∷ [])
      ≡ Some (named no_args None a t (literal (record { token = t; value = value.Nothing })), w keyword.Else ∷ [])
  row26 = refl

  -- an expression doesn't go on with a name or a literal
  row27 : expression_at 15 (n a ∷ plus ∷ n b ∷ n c ∷ []) ≡ Some (bin op.Add (name a) (name b), n c ∷ [])
  row27 = refl

  -- `a +`, `f(a` and `a.` have no tree
  row28 : expression_at 15 (n a ∷ plus ∷ []) ≡ None
  row28 = refl

  row29 : expression_at 15 (n f ∷ l ∷ n a ∷ []) ≡ None
  row29 = refl

  row30 : expression_at 15 (n a ∷ dot ∷ []) ≡ None
  row30 = refl
