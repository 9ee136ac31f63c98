-- No token inside an expression is outside of expressions, so what ends a statement stands in none.
use Rattle.std.proofs.Common.{◌≡◌, ℕ, Bool, true, false, List, [], ◌∷◌, ◌++◌, Option, Some, None, refl, sym, ap, ◌∙◌, subst, append_assoc}
use Rattle.std.proofs.lemmas.Bool.{false_from_ne_true}
use Rattle.vba_lexer.specs.declared.token.Token.{Token}
use Rattle.vba_words.specs.declared.identifier.Identifier.{Identifier}
use Rattle.vba_words.specs.declared.keyword.Keyword.TheVariants as keyword
use Rattle.vba_words.specs.declared.mark.Mark.TheVariants as mark
use Rattle.vba_words.specs.declared.reading.Reading.{Reading}
use Rattle.vba_words.specs.declared.reading.Reading.TheVariants as reading
use Rattle.vba_words.specs.declared.reading.ReadToken.{ReadToken}
use Rattle.vba_words.specs.Spelling.{read}
use Rattle.vba_expression.specs.declared.operator.UnaryOperator.{UnaryOperator}
use Rattle.vba_expression.specs.declared.operator.UnaryOperator.TheVariants as unary_op
use Rattle.vba_expression.specs.declared.tree.TypeQualifier.{TypeQualifier}
use Rattle.vba_expression.specs.declared.part.Part.{Part}
use Rattle.vba_expression.specs.declared.part.Part.TheVariants as part
use Rattle.vba_expression.specs.Tree.{Expr, literal, me, name, with_member, member, index, parenthesised, new, type_of, unary, binary, Args, no_args, missing, plain, named}
use Rattle.vba_expression.specs.Spelling.{spell, spell_args, unary_reading, type_name_tokens, comma_tokens}
use Rattle.vba_expression.specs.Parts.{part_of, reading_part}
use Rattle.vba_expression.specs.Taking.{StopsAt, Stops, ClosesAt, Closes}
use Rattle.vba_expression.proofs.Complete.{literal_part, binary_part}
use Rattle.vba_grammar.specs.Front.{ends}

abbrev pub is_outside : Part → Bool
is_outside part.Outside = true
is_outside other = false

-- what ends a statement is outside of expressions
pub end_outside : (t : ReadToken) (ts : List ReadToken) → ends (t ∷ ts) ≡ true → part_of t ≡ part.Outside
end_outside t ts h = by_reading t.token t.reading h
  where
    by_reading : (token : Token) (k : Reading) → ends (read token k ∷ []) ≡ true → reading_part token k ≡ part.Outside
    by_reading token (reading.Mark mark.Colon) h = refl
    by_reading token (reading.Keyword keyword.Else) h = refl
    by_reading token other h = absurd cc

pub end_stops : (n : ℕ) (rest : List ReadToken) → ends rest ≡ true → Stops n rest
end_stops n [] h = tt
end_stops n (t ∷ ts) h = subst (StopsAt n) (sym (end_outside t ts h)) tt

pub end_closes : (rest : List ReadToken) → ends rest ≡ true → Closes rest
end_closes [] h = tt
end_closes (t ∷ ts) h = subst ClosesAt (sym (end_outside t ts h)) tt

-- each token is inside
abbrev pub Calm : List ReadToken → Type 0
Calm [] = Unit {0}
Calm (t ∷ ts) = (is_outside (part_of t) ≡ false) × Calm ts

pub calm_append : (a b : List ReadToken) → Calm a → Calm b → Calm (a ++ b)
calm_append [] b p q = q
calm_append (t ∷ a) b p q = (p.0, calm_append a b p.1 q)

calm_comma : (c : Option Token) → Calm (comma_tokens c)
calm_comma None = tt
calm_comma (Some t) = (refl, tt)

calm_class : (q : Option TypeQualifier) (n : Identifier) → Calm (type_name_tokens (record { qualifier = q; name = n }))
calm_class None n = (refl, tt)
calm_class (Some q) n = (refl, (refl, (refl, tt)))

calm_unary : (t : Token) (u : UnaryOperator) → is_outside (part_of (read t (unary_reading u))) ≡ false
calm_unary t unary_op.Minus = refl
calm_unary t unary_op.Not = refl

mutual
  pub calm : (e : Expr) → Calm (spell e)
  calm (literal l) = (ap is_outside (literal_part l.token l.value), tt)
  calm (me t) = (refl, tt)
  calm (name x) = (refl, tt)
  calm (with_member d x) = (refl, (refl, tt))
  calm (member e d x) = calm_append (spell e) _ (calm e) (refl, (refl, tt))
  calm (index f l xs r) = calm_append (spell f) _ (calm f) (refl, calm_append (spell_args xs) _ (calm_args xs) (refl, tt))
  calm (parenthesised l e r) = (refl, calm_append (spell e) _ (calm e) (refl, tt))
  calm (new t class) = (refl, calm_class class.qualifier class.name)
  calm (type_of t e i class) = (refl, calm_append (spell e) _ (calm e) (refl, calm_class class.qualifier class.name))
  calm (unary u t e) = (calm_unary t u, calm e)
  calm (binary a o t b) = calm_append (spell a) _ (calm a) (ap is_outside (binary_part t o), calm b)

  pub calm_args : (xs : Args) → Calm (spell_args xs)
  calm_args no_args = tt
  calm_args (missing xs c) = calm_append (spell_args xs) _ (calm_args xs) (calm_comma c)
  calm_args (plain xs c e) = calm_append (spell_args xs) _ (calm_args xs) (calm_append (comma_tokens c) _ (calm_comma c) (calm e))
  calm_args (named xs c x g e) =
      calm_append (spell_args xs) _ (calm_args xs) (calm_append (comma_tokens c) _ (calm_comma c) (refl, (refl, calm e)))

-- no token ends a statement
abbrev pub Quiet : List ReadToken → Type 0
Quiet [] = Unit {0}
Quiet (t ∷ ts) = (ends (t ∷ []) ≡ false) × Quiet ts

pub quiet_append : (a b : List ReadToken) → Quiet a → Quiet b → Quiet (a ++ b)
quiet_append [] b p q = q
quiet_append (t ∷ a) b p q = (p.0, quiet_append a b p.1 q)

inside_quiet : (t : ReadToken) → is_outside (part_of t) ≡ false → ends (t ∷ []) ≡ false
inside_quiet t h = false_from_ne_true (ends (t ∷ [])) (λ e. let f = sym (ap is_outside (end_outside t [] e)) ∙ h in absurd cc)

pub calm_quiet : (ts : List ReadToken) → Calm ts → Quiet ts
calm_quiet [] c = tt
calm_quiet (t ∷ ts) c = (inside_quiet t c.0, calm_quiet ts c.1)

pub quiet : (e : Expr) → Quiet (spell e)
quiet e = calm_quiet (spell e) (calm e)

pub quiet_args : (xs : Args) → Quiet (spell_args xs)
quiet_args xs = calm_quiet (spell_args xs) (calm_args xs)

not_end : (t : ReadToken) (b u r : List ReadToken) → ends (t ∷ []) ≡ false → ends r ≡ true → r ≡ (t ∷ b) ++ u → ⊥
not_end t b u r c v e = let f : ends (t ∷ (b ++ u)) ≡ true = sym (ap ends e) ∙ v in let g : ends (t ∷ []) ≡ true = f in absurd cc

-- so tokens are cut in one way
pub cut_same : (a b r u : List ReadToken) → Quiet a → Quiet b → ends r ≡ true → ends u ≡ true → a ++ r ≡ b ++ u → (a ≡ b) × (r ≡ u)
cut_same [] [] r u p q v w e = (refl, e)
cut_same [] (y ∷ b) r u p q v w e = absurd (not_end y b u r q.0 v e)
cut_same (x ∷ a) [] r u p q v w e = absurd (not_end x a r u p.0 w (sym e))
cut_same (x ∷ a) (y ∷ b) r u p q v w e =
    let m = cut_same a b r u p.1 q.1 v w (let f : a ++ r ≡ b ++ u = cc in f) in
    let h : x ≡ y = cc in
    (ap (λ z. z ∷ a) h ∙ ap (λ z. y ∷ z) m.0, m.1)

-- an expression doesn't begin with a comma
abbrev pub may_begin : Part → Bool
may_begin part.Outside = false
may_begin part.Comma = false
may_begin other = true

abbrev pub Starts : List ReadToken → Type 0
Starts [] = ⊥
Starts (t ∷ ts) = may_begin (part_of t) ≡ true

start_unary : (t : Token) (u : UnaryOperator) → may_begin (part_of (read t (unary_reading u))) ≡ true
start_unary t unary_op.Minus = refl
start_unary t unary_op.Not = refl

pub starts : (e : Expr) (r : List ReadToken) → Starts (spell e ++ r)
starts (literal l) r = ap may_begin (literal_part l.token l.value)
starts (member e d x) r = subst Starts (sym (append_assoc (spell e) _ r)) (starts e _)
starts (index f l xs c) r = subst Starts (sym (append_assoc (spell f) _ r)) (starts f _)
starts (unary u t e) r = start_unary t u
starts (binary a o t b) r = subst Starts (sym (append_assoc (spell a) _ r)) (starts a _)
starts other r = refl
