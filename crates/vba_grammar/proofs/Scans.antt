-- How far tokens go on as one expression: its brackets are closed, and no comma and no token of another kind stands outside them.
use Rattle.std.proofs.Common.{◌≡◌, ℕ, zero, suc, Bool, true, false, List, [], ◌∷◌, ◌++◌, Option, Some, None, refl, sym, ap, ◌∙◌, append_assoc, ◌⊎◌, inl, inr}
use Rattle.std.proofs.lemmas.List.{append-nil}
use Rattle.vba_lexer.specs.declared.token.Token.{Token}
use Rattle.vba_words.specs.declared.identifier.Identifier.{Identifier}
use Rattle.vba_words.specs.declared.keyword.Keyword.TheVariants as keyword
use Rattle.vba_words.specs.declared.mark.Mark.TheVariants as mark
use Rattle.vba_words.specs.declared.reading.ReadToken.{ReadToken}
use Rattle.vba_words.specs.Spelling.{read, word, marked, naming}
use Rattle.vba_expression.specs.declared.part.Part.{Part}
use Rattle.vba_expression.specs.declared.part.Part.TheVariants as part
use Rattle.vba_expression.specs.declared.operator.UnaryOperator.{UnaryOperator}
use Rattle.vba_expression.specs.declared.operator.UnaryOperator.TheVariants as unary_op
use Rattle.vba_expression.specs.declared.operator.BinaryOperator.{BinaryOperator}
use Rattle.vba_expression.specs.declared.operator.BinaryOperator.TheVariants as op
use Rattle.vba_expression.specs.declared.tree.LiteralValue.{LiteralValue}
use Rattle.vba_expression.specs.declared.tree.LiteralValue.TheVariants as value
use Rattle.vba_expression.specs.declared.tree.TypeName.{TypeName}
use Rattle.vba_expression.specs.declared.tree.TypeQualifier.{TypeQualifier}
use Rattle.vba_expression.specs.Tree.{Expr, literal, me, name, with_member, member, index, parenthesised, new, type_of, unary, binary, Args, no_args, missing, plain, named}
use Rattle.vba_expression.specs.Spelling.{literal_reading, unary_reading, binary_reading, type_name_tokens, comma_tokens, spell, spell_args}
use Rattle.vba_expression.specs.Parts.{part_of}

-- the brackets that are open behind a token; where it is strict, no comma and no other token stands outside brackets
abbrev pub moved : Bool → ℕ → Part → Option ℕ
moved strict n part.LeftParenthesis = Some (suc n)
moved strict zero part.RightParenthesis = None
moved strict (suc n) part.RightParenthesis = Some n
moved true zero part.Comma = None
moved true zero part.Outside = None
moved strict n _ = Some n

abbrev pub goes : {A : Type 0} → Option ℕ → (ℕ → A) → A → A
goes None on stop = stop
goes (Some n) on stop = on n

-- the brackets that are open, and what is left
abbrev pub scan : Bool → ℕ → List ReadToken → ℕ × List ReadToken
scan strict n [] = (n, [])
scan strict n (t ∷ ts) = goes (moved strict n (part_of t)) (λ m. scan strict m ts) (n, t ∷ ts)

pass_literal : (s : Bool) (n : ℕ) (token : Token) (v : LiteralValue) (ts : List ReadToken) → scan s n (read token (literal_reading v) ∷ ts) ≡ scan s n ts
pass_literal s n token (value.Number number is_plain) ts = refl
pass_literal s n token _ ts = refl

pass_unary : (s : Bool) (n : ℕ) (token : Token) (u : UnaryOperator) (ts : List ReadToken) → scan s n (read token (unary_reading u) ∷ ts) ≡ scan s n ts
pass_unary s n token unary_op.Minus ts = refl
pass_unary s n token unary_op.Not ts = refl

pass_binary : (s : Bool) (n : ℕ) (token : Token) (o : BinaryOperator) (ts : List ReadToken) → scan s n (read token (binary_reading o) ∷ ts) ≡ scan s n ts
pass_binary s n token op.Power ts = refl
pass_binary s n token _ ts = refl

pass_type : (s : Bool) (n : ℕ) (class : TypeName) (ts : List ReadToken) → scan s n (type_name_tokens class ++ ts) ≡ scan s n ts
pass_type s n class ts = at class.qualifier class.name
  where
    at : (q : Option TypeQualifier) (x : Identifier) → scan s n (type_name_tokens (record { qualifier = q; name = x }) ++ ts) ≡ scan s n ts
    at None x = refl
    at (Some q) x = refl

pass_comma : (s : Bool) (n : ℕ) (c : Option Token) (ts : List ReadToken) → scan s (suc n) (comma_tokens c ++ ts) ≡ scan s (suc n) ts
pass_comma true n None ts = refl
pass_comma true n (Some comma) ts = refl
pass_comma false n None ts = refl
pass_comma false n (Some comma) ts = refl

mutual
  -- an expression is passed
  pub passes : (s : Bool) (n : ℕ) (e : Expr) (ts : List ReadToken) → scan s n (spell e ++ ts) ≡ scan s n ts
  passes s n (literal l) ts = pass_literal s n l.token l.value ts
  passes s n (me token) ts = refl
  passes s n (name x) ts = refl
  passes s n (with_member dot x) ts = refl
  passes s n (member base dot x) ts = ap (scan s n) (append_assoc (spell base) (marked dot mark.Dot ∷ naming x ∷ []) ts) ∙ passes s n base _
  passes s n (index base left xs right) ts =
      ap (scan s n) (append_assoc (spell base) (marked left mark.LeftParenthesis ∷ (spell_args xs ++ marked right mark.RightParenthesis ∷ [])) ts
      ∙ ap (λ us. spell base ++ marked left mark.LeftParenthesis ∷ us) (append_assoc (spell_args xs) (marked right mark.RightParenthesis ∷ []) ts))
      ∙ (passes s n base _ ∙ passes_args s n xs (marked right mark.RightParenthesis ∷ ts))
  passes s n (parenthesised left inner right) ts =
      ap (scan s (suc n)) (append_assoc (spell inner) (marked right mark.RightParenthesis ∷ []) ts) ∙ passes s (suc n) inner _
  passes s n (new new_word class) ts = pass_type s n class ts
  passes s n (type_of type_of_word operand is_word class) ts =
      ap (scan s n) (append_assoc (spell operand) (word is_word keyword.Is ∷ type_name_tokens class) ts) ∙ (passes s n operand _ ∙ pass_type s n class ts)
  passes s n (unary operator token operand) ts = pass_unary s n token operator (spell operand ++ ts) ∙ passes s n operand ts
  passes s n (binary left operator token right) ts =
      ap (scan s n) (append_assoc (spell left) (read token (binary_reading operator) ∷ spell right) ts)
      ∙ (passes s n left _ ∙ (pass_binary s n token operator (spell right ++ ts) ∙ passes s n right ts))

  -- arguments in brackets are passed
  pub passes_args : (s : Bool) (n : ℕ) (xs : Args) (ts : List ReadToken) → scan s (suc n) (spell_args xs ++ ts) ≡ scan s (suc n) ts
  passes_args s n no_args ts = refl
  passes_args s n (missing before comma) ts =
      ap (scan s (suc n)) (append_assoc (spell_args before) (comma_tokens comma) ts) ∙ (passes_args s n before _ ∙ pass_comma s n comma ts)
  passes_args s n (plain before comma e) ts =
      ap (scan s (suc n)) (append_assoc (spell_args before) (comma_tokens comma ++ spell e) ts)
      ∙ (passes_args s n before _ ∙ (ap (scan s (suc n)) (append_assoc (comma_tokens comma) (spell e) ts) ∙ (pass_comma s n comma _ ∙ passes s (suc n) e ts)))
  passes_args s n (named before comma x g e) ts =
      ap (scan s (suc n)) (append_assoc (spell_args before) (comma_tokens comma ++ naming x ∷ marked g mark.ColonEqual ∷ spell e) ts)
      ∙ (passes_args s n before _ ∙ (ap (scan s (suc n)) (append_assoc (comma_tokens comma) (naming x ∷ marked g mark.ColonEqual ∷ spell e) ts)
      ∙ (pass_comma s n comma _ ∙ passes s (suc n) e ts)))

pub passes_all : (s : Bool) (n : ℕ) (e : Expr) → scan s n (spell e) ≡ (n, [])
passes_all s n e = ap (scan s n) (sym (append-nil (spell e))) ∙ passes s n e []

-- a beginning of what is passed is passed too
pub begins_pass : (n k : ℕ) (xs ys : List ReadToken) → scan false n (xs ++ ys) ≡ (k, []) → (m : ℕ) × (scan false n xs ≡ (m, []))
begins_pass n k [] ys h = (n, refl)
begins_pass n k (t ∷ xs) ys h = at (moved false n (part_of t)) h (λ m e. begins_pass m k xs ys e)
  where
    at : (o : Option ℕ) → goes o (λ m. scan false m (xs ++ ys)) (n, t ∷ (xs ++ ys)) ≡ (k, [])
        → ((m : ℕ) → scan false m (xs ++ ys) ≡ (k, []) → (j : ℕ) × (scan false m xs ≡ (j, []))) → (m : ℕ) × (goes o (λ m. scan false m xs) (n, t ∷ xs) ≡ (m, []))
    at None h more = let e : t ∷ (xs ++ ys) ≡ [] = ap (λ p. p.1) h in absurd cc
    at (Some m) h more = more m h

-- one bracket more is open
one_more : (n m : ℕ) (p : Part) → moved false n p ≡ Some m → moved false (suc n) p ≡ Some (suc m)
one_more n m part.LeftParenthesis h = ap Some (ap suc (some_is (suc n) m h))
  where
    some_is : (a b : ℕ) → Some a ≡ Some b → a ≡ b
    some_is a b h = cc
one_more zero m part.RightParenthesis h = absurd cc
one_more (suc n) m part.RightParenthesis h = let e : n ≡ m = cc in ap (λ k. Some (suc k)) e
one_more n m _ h = let e : n ≡ m = cc in ap (λ k. Some (suc k)) e

pub opened : (n m : ℕ) (xs : List ReadToken) → scan false n xs ≡ (m, []) → scan false (suc n) xs ≡ (suc m, [])
opened n m [] h = let e : n ≡ m = ap (λ p. p.0) h in ap (λ k. (suc k, [])) e
opened n m (t ∷ xs) h = at (moved false n (part_of t)) refl h (λ k e. opened k m xs e)
  where
    at : (o : Option ℕ) → moved false n (part_of t) ≡ o → goes o (λ k. scan false k xs) (n, t ∷ xs) ≡ (m, [])
        → ((k : ℕ) → scan false k xs ≡ (m, []) → scan false (suc k) xs ≡ (suc m, [])) → scan false (suc n) (t ∷ xs) ≡ (suc m, [])
    at None e h more = let f : t ∷ xs ≡ [] = ap (λ p. p.1) h in absurd cc
    at (Some k) e h more = ap (λ q. goes q (λ j. scan false j xs) (suc n, t ∷ xs)) (one_more n k (part_of t) e) ∙ more k h

-- an expression can't go on with the tokens, nor what it is a part of
abbrev pub Halts : List ReadToken → Type 0
Halts [] = Unit {0}
Halts (t ∷ ts) = moved true 0 (part_of t) ≡ None

pub halts : (ts : List ReadToken) → Halts ts → scan true 0 ts ≡ (0, ts)
halts [] h = refl
halts (t ∷ ts) h = ap (λ o. goes o (λ m. scan true m ts) (0, t ∷ ts)) h

-- of two lists with the same beginning, one ends first
pub splits : {A : Type 0} (us bs xs ys : List A) → us ++ bs ≡ xs ++ ys
    → ((zs : List A) × (us ≡ xs ++ zs) × (zs ++ bs ≡ ys)) ⊎ ((zs : List A) × (xs ≡ us ++ zs) × (bs ≡ zs ++ ys))
splits us bs [] ys h = inl (us, refl, h)
splits [] bs (x ∷ xs) ys h = inr (x ∷ xs, refl, h)
splits (a ∷ us) bs (x ∷ xs) ys h =
    let e : a ≡ x = cc in
    let t : us ++ bs ≡ xs ++ ys = cc in
    at (splits us bs xs ys t) e
  where
    at : ((zs : List _) × (us ≡ xs ++ zs) × (zs ++ bs ≡ ys)) ⊎ ((zs : List _) × (xs ≡ us ++ zs) × (bs ≡ zs ++ ys)) → a ≡ x
        → ((zs : List _) × (a ∷ us ≡ x ∷ (xs ++ zs)) × (zs ++ bs ≡ ys)) ⊎ ((zs : List _) × (x ∷ xs ≡ a ∷ (us ++ zs)) × (bs ≡ zs ++ ys))
    at (inl p) e = inl (p.0, ap (λ b. b ∷ us) e ∙ ap (λ vs. x ∷ vs) p.1, p.2)
    at (inr p) e = inr (p.0, ap (λ b. b ∷ xs) (sym e) ∙ ap (λ vs. a ∷ vs) p.1, p.2)
