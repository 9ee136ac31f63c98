-- In brackets no part of a place begins.
use Rattle.std.proofs.Common.{◌≡◌, ℕ, suc, List, [], ◌∷◌, ◌++◌, Option, Some, None, refl, ap, ◌∙◌, append_assoc}
use Rattle.vba_lexer.specs.declared.token.Token.{Token}
use Rattle.vba_words.specs.declared.identifier.Identifier.{Identifier}
use Rattle.vba_words.specs.declared.keyword.Keyword.TheVariants as keyword
use Rattle.vba_words.specs.declared.mark.Mark.TheVariants as mark
use Rattle.vba_words.specs.declared.reading.ReadToken.{ReadToken}
use Rattle.vba_words.specs.Spelling.{read, word, marked, naming}
use Rattle.vba_expression.specs.declared.operator.UnaryOperator.{UnaryOperator}
use Rattle.vba_expression.specs.declared.operator.UnaryOperator.TheVariants as unary_op
use Rattle.vba_expression.specs.declared.operator.BinaryOperator.{BinaryOperator}
use Rattle.vba_expression.specs.declared.operator.BinaryOperator.TheVariants as op
use Rattle.vba_expression.specs.declared.tree.LiteralValue.{LiteralValue}
use Rattle.vba_expression.specs.declared.tree.LiteralValue.TheVariants as value
use Rattle.vba_expression.specs.declared.tree.TypeQualifier.{TypeQualifier}
use Rattle.vba_expression.specs.Tree.{Expr, literal, me, name, with_member, member, index, parenthesised, new, type_of, unary, binary, Args, no_args, missing, plain, named}
use Rattle.vba_expression.specs.Spelling.{literal_reading, unary_reading, binary_reading, type_name_tokens, comma_tokens, spell, spell_args}
use Rattle.vba_statements.specs.Calls.{starts}

-- a token that is no bracket changes nothing in brackets
literal_stays : (v : LiteralValue) (t : Token) (d : ℕ) (us : List ReadToken) → starts (suc d) (read t (literal_reading v) ∷ us) ≡ starts (suc d) us
literal_stays (value.Number number is_plain) t d us = refl
literal_stays (value.Text text) t d us = refl
literal_stays value.True t d us = refl
literal_stays value.False t d us = refl
literal_stays value.Nothing t d us = refl
literal_stays value.Null t d us = refl
literal_stays value.Empty t d us = refl

unary_stays : (o : UnaryOperator) (t : Token) (d : ℕ) (us : List ReadToken) → starts (suc d) (read t (unary_reading o) ∷ us) ≡ starts (suc d) us
unary_stays unary_op.Minus t d us = refl
unary_stays unary_op.Not t d us = refl

binary_stays : (o : BinaryOperator) (t : Token) (d : ℕ) (us : List ReadToken) → starts (suc d) (read t (binary_reading o) ∷ us) ≡ starts (suc d) us
binary_stays op.Power t d us = refl
binary_stays op.Multiply t d us = refl
binary_stays op.Divide t d us = refl
binary_stays op.IntegerDivide t d us = refl
binary_stays op.Modulo t d us = refl
binary_stays op.Add t d us = refl
binary_stays op.Subtract t d us = refl
binary_stays op.Join t d us = refl
binary_stays op.Equal t d us = refl
binary_stays op.NotEqual t d us = refl
binary_stays op.Less t d us = refl
binary_stays op.Greater t d us = refl
binary_stays op.LessEqual t d us = refl
binary_stays op.GreaterEqual t d us = refl
binary_stays op.Is t d us = refl
binary_stays op.And t d us = refl
binary_stays op.Or t d us = refl
binary_stays op.Xor t d us = refl
binary_stays op.Eqv t d us = refl
binary_stays op.Imp t d us = refl

type_stays : (q : Option TypeQualifier) (n : Identifier) (d : ℕ) (us : List ReadToken)
    → starts (suc d) (type_name_tokens (record { qualifier = q; name = n }) ++ us) ≡ starts (suc d) us
type_stays None n d us = refl
type_stays (Some q) n d us = refl

comma_stays : (c : Option Token) (d : ℕ) (us : List ReadToken) → starts (suc d) (comma_tokens c ++ us) ≡ starts (suc d) us
comma_stays None d us = refl
comma_stays (Some c) d us = refl

mutual
  pub inner : (e : Expr) (d : ℕ) (us : List ReadToken) → starts (suc d) (spell e ++ us) ≡ starts (suc d) us
  inner (literal l) d us = literal_stays l.value l.token d us
  inner (me t) d us = refl
  inner (name x) d us = refl
  inner (with_member c x) d us = refl
  inner (member base c x) d us =
      ap (starts (suc d)) (append_assoc (spell base) (marked c mark.Dot ∷ naming x ∷ []) us) ∙ inner base d (marked c mark.Dot ∷ naming x ∷ us)
  inner (index base l xs r) d us =
      ap (starts (suc d)) (append_assoc (spell base) (marked l mark.LeftParenthesis ∷ (spell_args xs ++ marked r mark.RightParenthesis ∷ [])) us)
      ∙ inner base d (marked l mark.LeftParenthesis ∷ ((spell_args xs ++ marked r mark.RightParenthesis ∷ []) ++ us))
      ∙ ap (starts (suc (suc d))) (append_assoc (spell_args xs) (marked r mark.RightParenthesis ∷ []) us)
      ∙ inner_args xs (suc d) (marked r mark.RightParenthesis ∷ us)
  inner (parenthesised l e r) d us =
      ap (starts (suc (suc d))) (append_assoc (spell e) (marked r mark.RightParenthesis ∷ []) us) ∙ inner e (suc d) (marked r mark.RightParenthesis ∷ us)
  inner (new t class) d us = type_stays class.qualifier class.name d us
  inner (type_of t e i class) d us =
      ap (starts (suc d)) (append_assoc (spell e) (word i keyword.Is ∷ type_name_tokens class) us)
      ∙ inner e d (word i keyword.Is ∷ (type_name_tokens class ++ us))
      ∙ type_stays class.qualifier class.name d us
  inner (unary u t e) d us = unary_stays u t d (spell e ++ us) ∙ inner e d us
  inner (binary a o t b) d us =
      ap (starts (suc d)) (append_assoc (spell a) (read t (binary_reading o) ∷ spell b) us)
      ∙ inner a d (read t (binary_reading o) ∷ (spell b ++ us))
      ∙ binary_stays o t d (spell b ++ us)
      ∙ inner b d us

  pub inner_args : (xs : Args) (d : ℕ) (us : List ReadToken) → starts (suc d) (spell_args xs ++ us) ≡ starts (suc d) us
  inner_args no_args d us = refl
  inner_args (missing before c) d us =
      ap (starts (suc d)) (append_assoc (spell_args before) (comma_tokens c) us) ∙ inner_args before d (comma_tokens c ++ us) ∙ comma_stays c d us
  inner_args (plain before c e) d us =
      ap (starts (suc d)) (append_assoc (spell_args before) (comma_tokens c ++ spell e) us)
      ∙ inner_args before d ((comma_tokens c ++ spell e) ++ us)
      ∙ ap (starts (suc d)) (append_assoc (comma_tokens c) (spell e) us)
      ∙ comma_stays c d (spell e ++ us)
      ∙ inner e d us
  inner_args (named before c x g e) d us =
      ap (starts (suc d)) (append_assoc (spell_args before) (comma_tokens c ++ naming x ∷ marked g mark.ColonEqual ∷ spell e) us)
      ∙ inner_args before d ((comma_tokens c ++ naming x ∷ marked g mark.ColonEqual ∷ spell e) ++ us)
      ∙ ap (starts (suc d)) (append_assoc (comma_tokens c) (naming x ∷ marked g mark.ColonEqual ∷ spell e) us)
      ∙ comma_stays c d (naming x ∷ marked g mark.ColonEqual ∷ (spell e ++ us))
      ∙ inner e d us
