-- The laws of reading what stands at the front of tokens: one token, a name, an expression, a place, items with a mark between each two.
use Rattle.std.proofs.Common.{◌≡◌, ℕ, zero, suc, ◌<◌, ◌≤◌, length, Bool, true, false, List, [], ◌∷◌, ◌++◌, Option, Some, None, refl, sym, ap, ◌∙◌, subst, arith, append_assoc}
use Rattle.std.specs.Prelude.{IfSome}
use Rattle.std.proofs.lemmas.Bool.{cond_both}
use Rattle.std.proofs.lemmas.List.{length-append}
use Rattle.std.proofs.lemmas.Slice.Eq.{bytes_eq-Decides}
use Rattle.vba_lexer.specs.declared.token.Token.{Token}
use Rattle.vba_lexer.specs.declared.number.TypeSuffix.{TypeSuffix}
use Rattle.vba_words.specs.declared.identifier.Identifier.{Identifier}
use Rattle.vba_words.specs.declared.keyword.Keyword.{Keyword}
use Rattle.vba_words.specs.declared.keyword.Keyword.TheVariants as keyword
use Rattle.vba_words.specs.declared.mark.Mark.{Mark}
use Rattle.vba_words.specs.declared.mark.Mark.TheVariants as mark
use Rattle.vba_words.specs.declared.reading.Reading.{Reading}
use Rattle.vba_words.specs.declared.reading.Reading.TheVariants as reading
use Rattle.vba_words.specs.declared.reading.ReadToken.{ReadToken}
use Rattle.vba_words.specs.Words.{is_word}
use Rattle.vba_words.specs.Spelling.{read, marked, naming}
use Rattle.vba_expression.specs.declared.part.Part.{Part}
use Rattle.vba_expression.specs.declared.part.Part.TheVariants as part
use Rattle.vba_expression.specs.declared.operator.UnaryOperator.{UnaryOperator}
use Rattle.vba_expression.specs.declared.operator.UnaryOperator.TheVariants as unary_op
use Rattle.vba_expression.specs.declared.operator.BinaryOperator.TheVariants as op
use Rattle.vba_expression.specs.declared.tree.LiteralValue.{LiteralValue}
use Rattle.vba_expression.specs.declared.tree.LiteralValue.TheVariants as value
use Rattle.vba_expression.specs.Tree.{Expr, literal, me, name, with_member, member, index, parenthesised, new, type_of, unary, binary}
use Rattle.vba_expression.specs.Spelling.{literal_reading, unary_reading, spell, spell_args}
use Rattle.vba_expression.specs.Fitting.{level, Fits, is_place}
use Rattle.vba_expression.specs.Parts.{part_of, reading_part}
use Rattle.vba_expression.specs.Reader.{expression_at, unless_suffixed, with_rest}
use Rattle.vba_expression.specs.Taking.{StopsAt, Stops, Takes}
use Rattle.vba_expression.proofs.Complete.{level_small}
use Rattle.vba_expression.proofs.Inverses.{again, takes}
use Rattle.vba_tree.specs.Spelling.{optional, optional_word, spell_others, spell_listed, with_commas}
use Rattle.vba_tree.specs.Forms.{IsPlace, Each, EachOther}
use Rattle.vba_grammar.specs.Front.{Found, ◌>>=◌, found_as, is_as, is_new, is_to, is_then, is_in, is_equal, is_times, is_left, is_right, is_comma, is_dot, is_else, begins, token_at, token_if, reads, name_at, plain_name_at, whole_at, kept_place, place_at, part_if, before_right, with_next, others_at, listed_at, commas_at, ends}
use Rattle.vba_grammar.specs.Laws.{IsComplete, Ends}
use Rattle.vba_grammar.proofs.Binding.{Told, Spelled, nothing_told, some_told, then_told, as_told, cond_told, then_is, as_is, if_is, if_not}

-- each test holds of one reading alone
pub means_as : (r : Reading) → is_as r ≡ true → r ≡ reading.Keyword keyword.As
means_as (reading.Keyword keyword.As) h = refl
means_as _ h = absurd cc

pub means_new : (r : Reading) → is_new r ≡ true → r ≡ reading.Keyword keyword.New
means_new (reading.Keyword keyword.New) h = refl
means_new _ h = absurd cc

pub means_to : (r : Reading) → is_to r ≡ true → r ≡ reading.Keyword keyword.To
means_to (reading.Keyword keyword.To) h = refl
means_to _ h = absurd cc

pub means_then : (r : Reading) → is_then r ≡ true → r ≡ reading.Keyword keyword.Then
means_then (reading.Keyword keyword.Then) h = refl
means_then _ h = absurd cc

pub means_in : (r : Reading) → is_in r ≡ true → r ≡ reading.Keyword keyword.In
means_in (reading.Keyword keyword.In) h = refl
means_in _ h = absurd cc

pub means_else : (r : Reading) → is_else r ≡ true → r ≡ reading.Keyword keyword.Else
means_else (reading.Keyword keyword.Else) h = refl
means_else _ h = absurd cc

pub means_equal : (r : Reading) → is_equal r ≡ true → r ≡ reading.Mark mark.Equal
means_equal (reading.Mark mark.Equal) h = refl
means_equal _ h = absurd cc

pub means_times : (r : Reading) → is_times r ≡ true → r ≡ reading.Mark mark.Times
means_times (reading.Mark mark.Times) h = refl
means_times _ h = absurd cc

pub means_left : (r : Reading) → is_left r ≡ true → r ≡ reading.Mark mark.LeftParenthesis
means_left (reading.Mark mark.LeftParenthesis) h = refl
means_left _ h = absurd cc

pub means_right : (r : Reading) → is_right r ≡ true → r ≡ reading.Mark mark.RightParenthesis
means_right (reading.Mark mark.RightParenthesis) h = refl
means_right _ h = absurd cc

pub means_comma : (r : Reading) → is_comma r ≡ true → r ≡ reading.Mark mark.Comma
means_comma (reading.Mark mark.Comma) h = refl
means_comma _ h = absurd cc

pub means_dot : (r : Reading) → is_dot r ≡ true → r ≡ reading.Mark mark.Dot
means_dot (reading.Mark mark.Dot) h = refl
means_dot _ h = absurd cc

-- a word of the grammar that is a name elsewhere
pub means_reads : (fold : List ℕ) (r : Reading) → reads fold r ≡ true → r ≡ reading.Name fold None false
means_reads fold (reading.Name x None false) h = ap (λ n. reading.Name n None false) ((bytes_eq-Decides x fold).0 h)
means_reads fold _ h = absurd cc

-- the token at the front
pub token_told : {is_so : Reading → Bool} {meant : Reading} (ts : List ReadToken) → ((r : Reading) → is_so r ≡ true → r ≡ meant)
    → Told (λ token rest. ts ≡ read token meant ∷ rest) (token_at is_so ts)
token_told [] means = nothing_told
token_told {is_so = is_so} (t ∷ ts) means = cond_told (is_so t.reading) _ _ (λ e. some_told (ap (λ r. record { token = t.token; reading = r } ∷ ts) (means t.reading e))) (λ e. nothing_told)

-- a name at the front
pub name_told : (ts : List ReadToken) → Told (λ x rest. ts ≡ naming x ∷ rest) (name_at ts)
name_told [] = nothing_told
name_told (t ∷ ts) = at t.token t.reading refl
  where
    at : (token : Token) (r : Reading) → t ≡ read token r → Told (λ x rest. t ∷ ts ≡ naming x ∷ rest) (name_at (read token r ∷ ts))
    at token (reading.Name x suffix is_bracketed) h = some_told (ap (λ u. u ∷ ts) h)
    at token _ h = nothing_told

-- a name without a suffix at the front
pub plain_told : (ts : List ReadToken) → Told (λ x rest. (ts ≡ naming x ∷ rest) × (x.suffix ≡ None)) (plain_name_at ts)
plain_told ts = then_told (name_told ts) (λ x rest p. by_suffix x rest p x.suffix refl)
  where
    by_suffix : (x : Identifier) (rest : List ReadToken) → ts ≡ naming x ∷ rest → (suffix : Option TypeSuffix) → x.suffix ≡ suffix
        → Told (λ y behind. (ts ≡ naming y ∷ behind) × (y.suffix ≡ None)) (with_rest rest (unless_suffixed suffix x))
    by_suffix x rest p None e = some_told (p, e)
    by_suffix x rest p (Some suffix) e = nothing_told

pub plain_name_is : (x : Identifier) (rest : List ReadToken) → x.suffix ≡ None → plain_name_at (naming x ∷ rest) ≡ Some (x, rest)
plain_name_is x rest h = ap (λ suffix. with_rest rest (unless_suffixed suffix x)) h

-- a token that may be missing
pub token_if_told : {is_so : Reading → Bool} {kept : Keyword} (ts : List ReadToken) → ((r : Reading) → is_so r ≡ true → r ≡ reading.Keyword kept)
    → ts ≡ optional_word kept (token_if is_so ts).0 ++ (token_if is_so ts).1
token_if_told [] means = refl
token_if_told {is_so = is_so} {kept = kept} (t ∷ ts) means =
    cond_both {A = Option Token × List ReadToken} (is_so t.reading) (Some t.token, ts) (None, t ∷ ts) (λ p. t ∷ ts ≡ optional_word kept p.0 ++ p.1)
    (λ e. ap (λ r. record { token = t.token; reading = r } ∷ ts) (means t.reading e)) (λ e. refl)

pub token_if_none : (is_so : Reading → Bool) (ts : List ReadToken) → begins is_so ts ≡ false → token_if is_so ts ≡ (None, ts)
token_if_none is_so [] h = refl
token_if_none is_so (t ∷ ts) h = if_not _ _ h refl

pub token_if_is : (is_so : Reading → Bool) (kept : Keyword) (o : Option Token) (rest : List ReadToken) → is_so (reading.Keyword kept) ≡ true
    → begins is_so rest ≡ false → token_if is_so (optional_word kept o ++ rest) ≡ (o, rest)
token_if_is is_so kept None rest e h = token_if_none is_so rest h
token_if_is is_so kept (Some token) rest e h = if_is _ _ e refl

-- an expression, as long as it can be
pub whole_told : (ts : List ReadToken) → Told (λ e rest. Takes 15 ts e rest) (whole_at ts)
whole_told ts = record { at = λ e rest h. takes 15 ts rest e (omega arith) h }

pub whole_is : (e : Expr) (rest : List ReadToken) → Fits e → Stops 15 rest → whole_at (spell e ++ rest) ≡ Some (e, rest)
whole_is e rest w s = again 15 (spell e ++ rest) rest e (record { same = refl; under = level_small e; fits = w; stops = s })

-- what holds of each, and holds of each
pub others_both : {A : Type 0} (P Q : A → Type 0) (others : List (Token × A)) → EachOther (λ a. P a × Q a) others → EachOther P others × EachOther Q others
others_both P Q [] h = (tt, tt)
others_both P Q (other ∷ others) h = let more = others_both P Q others h.1 in ((h.0.0, more.0), (h.0.1, more.1))

pub both_others : {A : Type 0} (P Q : A → Type 0) (others : List (Token × A)) → EachOther P others → EachOther Q others → EachOther (λ a. P a × Q a) others
both_others P Q [] h k = tt
both_others P Q (other ∷ others) h k = ((h.0, k.0), both_others P Q others h.1 k.1)

-- a place has no operator outside
pub place_level : (e : Expr) → is_place e ≡ true → level e ≡ 0
place_level (unary operator token operand) h = absurd cc
place_level (binary left operator token right) h = absurd cc
place_level _ h = refl

-- a place is at the front of the tokens and doesn't go on with the rest
pub record IsAtPlace (ts : List ReadToken) (e : Expr) (rest : List ReadToken) : Type 0 where
  pub same : ts ≡ spell e ++ rest
  pub place : IsPlace e
  pub stops : Stops 1 rest

pub place_told : (ts : List ReadToken) → Told (λ e rest. IsAtPlace ts e rest) (place_at ts)
place_told ts =
    let first : Told (λ e rest. Takes 1 ts e rest) (expression_at 1 ts) = record { at = λ e rest h. takes 1 ts rest e (omega arith) h } in
    then_told first (λ e rest t. cond_told (is_place e) (Some (e, rest)) None
    (λ p. some_told (record { same = t.same; place = (p, t.fits); stops = t.stops })) (λ p. nothing_told))

pub place_is : (e : Expr) (rest : List ReadToken) → IsPlace e → Stops 1 rest → place_at (spell e ++ rest) ≡ Some (e, rest)
place_is e rest w s =
    let zero_level = place_level e w.0 in
    then_is kept_place (again 1 (spell e ++ rest) rest e (record { same = refl; under = omega arith; fits = w.1; stops = s })) (if_is (Some (e, rest)) None w.0 refl)

-- a part that is there where its first token is so
pub part_told : {A : Type 0} (is_so : Reading → Bool) {spelled : A → List ReadToken} {Good : A → Type 0} (part : List ReadToken → Found A) (ts : List ReadToken)
    → Spelled spelled Good ts (part ts) → Spelled (optional spelled) (λ o. IfSome o Good) ts (part_if is_so part ts)
part_told is_so part ts told = cond_told (begins is_so ts) (found_as Some (part ts)) (Some (None, ts)) (λ e. as_told Some told (λ a rest p. p)) (λ e. some_told (refl, tt))

pub part_none : {A : Type 0} (is_so : Reading → Bool) (part : List ReadToken → Found A) (ts : List ReadToken) → begins is_so ts ≡ false
    → part_if is_so part ts ≡ Some (None, ts)
part_none is_so part ts h = if_not _ _ h refl

pub part_some : {A : Type 0} (is_so : Reading → Bool) (part : List ReadToken → Found A) {ts rest : List ReadToken} {a : A} → begins is_so ts ≡ true
    → part ts ≡ Some (a, rest) → part_if is_so part ts ≡ Some (Some a, rest)
part_some is_so part e h = if_is _ _ e (as_is Some h)

-- what begins with such a token, or is missing before one that isn't such
pub part_is : {A : Type 0} (is_so : Reading → Bool) (spelled : A → List ReadToken) {Good : A → Type 0} {Behind : List ReadToken → Type 0} (part : List ReadToken → Found A)
    → IsComplete spelled Good Behind part → ((a : A) (ts : List ReadToken) → begins is_so (spelled a ++ ts) ≡ true)
    → IsComplete (optional spelled) (λ o. IfSome o Good) (λ rest. Behind rest × (begins is_so rest ≡ false)) (part_if is_so part)
part_is is_so spelled part complete starts None rest good h = part_none is_so part rest h.1
part_is is_so spelled part complete starts (Some a) rest good h = part_some is_so part (starts a rest) (complete a rest good h.0)

-- a part in brackets that may be missing there
pub before_told : {A : Type 0} {spelled : A → List ReadToken} {Good : A → Type 0} (part : List ReadToken → Found A) (ts : List ReadToken)
    → Spelled spelled Good ts (part ts) → Spelled (optional spelled) (λ o. IfSome o Good) ts (before_right part ts)
before_told part ts told = cond_told (begins is_right ts) (Some (None, ts)) (found_as Some (part ts)) (λ e. some_told (refl, tt)) (λ e. as_told Some told (λ a rest p. p))

pub before_is : {A : Type 0} (spelled : A → List ReadToken) {Good : A → Type 0} {Behind : List ReadToken → Type 0} (part : List ReadToken → Found A)
    → IsComplete spelled Good Behind part → ((a : A) (ts : List ReadToken) → Good a → begins is_right (spelled a ++ ts) ≡ false)
    → IsComplete (optional spelled) (λ o. IfSome o Good) (λ rest. Behind rest × (begins is_right rest ≡ true)) (before_right part)
before_is spelled part complete starts None rest good h = if_is _ _ h.1 refl
before_is spelled part complete starts (Some a) rest good h = if_not _ _ (starts a rest good) (as_is Some (complete a rest good h.0))

-- items with a mark between each two
pub others_told : {A : Type 0} {is_between : Reading → Bool} {between : Mark} (spelled : A → List ReadToken) {Good : A → Type 0} (item : List ReadToken → Found A)
    → ((r : Reading) → is_between r ≡ true → r ≡ reading.Mark between) → ((ts : List ReadToken) → Spelled spelled Good ts (item ts))
    → (n : ℕ) (ts : List ReadToken) → Spelled (spell_others spelled between) (EachOther Good) ts (others_at n is_between item ts)
others_told spelled item means told zero ts = nothing_told
others_told spelled item means told (suc n) [] = some_told (refl, tt)
others_told {is_between = is_between} {between = between} spelled item means told (suc n) (t ∷ ts) =
    cond_told (is_between t.reading) _ _
    (λ e. then_told (told ts) (λ a rest p.
    as_told (λ others. (t.token, a) ∷ others) (others_told {is_between = is_between} spelled item means told n rest) (λ others behind q. (
      ap (λ r. record { token = t.token; reading = r } ∷ ts) (means t.reading e)
          ∙ ap (λ us. marked t.token between ∷ us) (p.0 ∙ ap (λ us. spelled a ++ us) q.0 ∙ sym (append_assoc (spelled a) (spell_others spelled between others) behind)),
      (p.1, q.1),
    ))))
    (λ e. some_told (refl, tt))

pub listed_told : {A : Type 0} {is_between : Reading → Bool} {between : Mark} (spelled : A → List ReadToken) {Good : A → Type 0} (item : List ReadToken → Found A)
    → ((r : Reading) → is_between r ≡ true → r ≡ reading.Mark between) → ((ts : List ReadToken) → Spelled spelled Good ts (item ts))
    → (ts : List ReadToken) → Spelled (spell_listed spelled between) (Each Good) ts (listed_at is_between item ts)
listed_told {is_between = is_between} {between = between} spelled item means told ts =
    then_told (told ts) (λ a rest p. then_told (others_told {is_between = is_between} spelled item means told (suc (length rest)) rest) (λ others behind q.
    some_told (p.0 ∙ ap (λ us. spelled a ++ us) q.0 ∙ sym (append_assoc (spelled a) (spell_others spelled between others) behind), (p.1, q.1))))

pub commas_told : {A : Type 0} (spelled : A → List ReadToken) {Good : A → Type 0} (item : List ReadToken → Found A)
    → ((ts : List ReadToken) → Spelled spelled Good ts (item ts)) → (ts : List ReadToken) → Spelled (with_commas spelled) (Each Good) ts (commas_at item ts)
commas_told spelled item told ts = listed_told spelled item means_comma told ts

pub others_end : {A : Type 0} (is_between : Reading → Bool) (item : List ReadToken → Found A) (n : ℕ) (rest : List ReadToken) → begins is_between rest ≡ false
    → others_at (suc n) is_between item rest ≡ Some ([], rest)
others_end is_between item n [] h = refl
others_end is_between item n (t ∷ ts) h = if_not _ _ h refl

module _ {A : Type 0} (is_between : Reading → Bool) (between : Mark) (spelled : A → List ReadToken) {Good : A → Type 0} {Behind : List ReadToken → Type 0}
    (item : List ReadToken → Found A) (goes : is_between (reading.Mark between) ≡ true) (behind : (token : Token) (ts : List ReadToken) → Behind (marked token between ∷ ts))
    (complete : IsComplete spelled Good Behind item) where
  before_others : (others : List (Token × A)) (rest : List ReadToken) → Behind rest → Behind (spell_others spelled between others ++ rest)
  before_others [] rest b = b
  before_others (other ∷ others) rest b = behind other.0 _

  pub others_is : (n : ℕ) (others : List (Token × A)) (rest : List ReadToken) → length others < n → EachOther Good others
      → Behind rest → begins is_between rest ≡ false → others_at n is_between item (spell_others spelled between others ++ rest) ≡ Some (others, rest)
  others_is zero others rest l good b h = absurd (omega arith)
  others_is (suc n) [] rest l good b h = others_end is_between item n rest h
  others_is (suc n) (other ∷ others) rest l good b h =
      if_is _ _ goes
      (ap (λ us. item us >>= λ a r. with_next (other.0, a) (others_at n is_between item r)) (append_assoc (spelled other.1) (spell_others spelled between others) rest)
      ∙ then_is _ (complete other.1 (spell_others spelled between others ++ rest) good.0 (before_others others rest b))
      (as_is _ (others_is n others rest (omega arith) good.1 b h)))

  marks : (others : List (Token × A)) (rest : List ReadToken) → length others ≤ length (spell_others spelled between others ++ rest)
  marks [] rest = omega arith
  marks (other ∷ others) rest =
      let more = marks others rest in
      let len = ap length (append_assoc (spelled other.1) (spell_others spelled between others) rest) in
      let sum = length-append (spelled other.1) (spell_others spelled between others ++ rest) in
      omega arith

  pub listed_is : IsComplete (spell_listed spelled between) (Each Good) (λ rest. Behind rest × (begins is_between rest ≡ false)) (listed_at is_between item)
  listed_is list rest good h =
      ap (listed_at is_between item) (append_assoc (spelled list.first) (spell_others spelled between list.others) rest)
      ∙ then_is _ (complete list.first (spell_others spelled between list.others ++ rest) good.0 (before_others list.others rest h.0))
      (then_is _ (others_is (suc (length (spell_others spelled between list.others ++ rest))) list.others rest (omega (arith, marks list.others rest)) good.1 h.0 h.1) refl)

pub commas_is : {A : Type 0} (spelled : A → List ReadToken) {Good : A → Type 0} {Behind : List ReadToken → Type 0} (item : List ReadToken → Found A)
    → ((token : Token) (ts : List ReadToken) → Behind (marked token mark.Comma ∷ ts)) → IsComplete spelled Good Behind item
    → IsComplete (with_commas spelled) (Each Good) (λ rest. Behind rest × (begins is_comma rest ≡ false)) (commas_at item)
commas_is spelled item behind complete = listed_is is_comma mark.Comma spelled item refl behind complete

-- what an expression begins with
abbrev pub OpensAt : Part → Type 0
OpensAt (part.Operator op.Subtract) = Unit {0}
OpensAt (part.Operator _) = ⊥
OpensAt part.RightParenthesis = ⊥
OpensAt part.Comma = ⊥
OpensAt part.Dot = ⊥
OpensAt part.ColonEqual = ⊥
OpensAt part.Outside = ⊥
OpensAt _ = Unit {0}

abbrev pub Opens : List ReadToken → Type 0
Opens [] = ⊥
Opens (t ∷ ts) = OpensAt (part_of t)

opens_literal : (token : Token) (v : LiteralValue) (ts : List ReadToken) → Opens (read token (literal_reading v) ∷ ts)
opens_literal token (value.Number number is_plain) ts = tt
opens_literal token _ ts = tt

opens_unary : (token : Token) (u : UnaryOperator) (ts : List ReadToken) → Opens (read token (unary_reading u) ∷ ts)
opens_unary token unary_op.Minus ts = tt
opens_unary token unary_op.Not ts = tt

pub opens : (e : Expr) (ts : List ReadToken) → Opens (spell e ++ ts)
opens (literal l) ts = opens_literal l.token l.value ts
opens (me token) ts = tt
opens (name identifier) ts = tt
opens (with_member dot identifier) ts = tt
opens (member base dot identifier) ts = subst Opens (sym (append_assoc (spell base) (marked dot mark.Dot ∷ naming identifier ∷ []) ts)) (opens base _)
opens (index base left arguments right) ts =
    subst Opens (sym (append_assoc (spell base) (marked left mark.LeftParenthesis ∷ (spell_args arguments ++ marked right mark.RightParenthesis ∷ [])) ts)) (opens base _)
opens (parenthesised left inner right) ts = tt
opens (new new_word class) ts = tt
opens (type_of type_of_word operand is_word class) ts = tt
opens (unary operator token operand) ts = opens_unary token operator (spell operand ++ ts)
opens (binary left operator token right) ts = subst Opens (sym (append_assoc (spell left) _ ts)) (opens left _)

opens_so : (is_so : Reading → Bool) → ((token : Token) (r : Reading) → OpensAt (reading_part token r) → is_so r ≡ false) → (ts : List ReadToken) → Opens ts
    → begins is_so ts ≡ false
opens_so is_so never [] h = absurd h
opens_so is_so never (t ∷ ts) h = never t.token t.reading h

-- an expression doesn't begin with such a token
pub begins_not : (is_so : Reading → Bool) → ((token : Token) (r : Reading) → OpensAt (reading_part token r) → is_so r ≡ false) → (e : Expr) (ts : List ReadToken)
    → begins is_so (spell e ++ ts) ≡ false
begins_not is_so never e ts = opens_so is_so never (spell e ++ ts) (opens e ts)

pub opens_no_right : (token : Token) (r : Reading) → OpensAt (reading_part token r) → is_right r ≡ false
opens_no_right token (reading.Mark mark.RightParenthesis) h = absurd h
opens_no_right token _ h = refl

pub opens_no_else : (token : Token) (r : Reading) → OpensAt (reading_part token r) → is_else r ≡ false
opens_no_else token (reading.Keyword keyword.Else) h = absurd h
opens_no_else token _ h = refl

-- where an expression stops, no bracket and no dot stands
pub stops_no_left : (n : ℕ) (ts : List ReadToken) → Stops n ts → begins is_left ts ≡ false
stops_no_left n [] h = refl
stops_no_left n (t ∷ ts) h = at t.token t.reading h
  where
    at : (token : Token) (r : Reading) → StopsAt n (reading_part token r) → is_left r ≡ false
    at token (reading.Mark mark.LeftParenthesis) h = absurd h
    at token _ h = refl

pub stops_no_dot : (n : ℕ) (ts : List ReadToken) → Stops n ts → begins is_dot ts ≡ false
stops_no_dot n [] h = refl
stops_no_dot n (t ∷ ts) h = at t.token t.reading h
  where
    at : (token : Token) (r : Reading) → StopsAt n (reading_part token r) → is_dot r ≡ false
    at token (reading.Mark mark.Dot) h = absurd h
    at token _ h = refl

-- before the end of a statement an expression stops, and no such token stands
pub ends_stop : (n : ℕ) (ts : List ReadToken) → Ends ts → Stops n ts
ends_stop n [] h = tt
ends_stop n (t ∷ ts) h = at t.token t.reading h
  where
    at : (token : Token) (r : Reading) → ends (read token r ∷ []) ≡ true → StopsAt n (reading_part token r)
    at token (reading.Mark mark.Colon) h = tt
    at token (reading.Keyword keyword.Else) h = tt
    at token _ h = absurd cc

pub ends_not : (is_so : Reading → Bool) (ts : List ReadToken) → is_so (reading.Mark mark.Colon) ≡ false → is_so (reading.Keyword keyword.Else) ≡ false → Ends ts
    → begins is_so ts ≡ false
ends_not is_so [] c e h = refl
ends_not is_so (t ∷ ts) c e h = at t.token t.reading h
  where
    at : (token : Token) (r : Reading) → ends (read token r ∷ []) ≡ true → is_so r ≡ false
    at token (reading.Mark mark.Colon) h = c
    at token (reading.Keyword keyword.Else) h = e
    at token _ h = absurd cc
