-- What is read is a fitting tree that spells the tokens.
use Rattle.std.proofs.Common.{◌≡◌, ℕ, suc, ◌<◌, ◌≤◌, Bool, true, List, [], ◌∷◌, ◌++◌, Option, Some, None, refl, sym, ap, ◌∙◌, subst, arith, append_assoc}
use Rattle.std.specs.Prelude.{nat_lt, if◌then◌else◌, option_map}
use Rattle.std.proofs.lemmas.Bool.{ltb-true, ltb-false, cond_both}
use Rattle.std.proofs.lemmas.List.{append-nil}
use Rattle.vba_lexer.specs.declared.token.Token.{Token}
use Rattle.vba_lexer.specs.declared.number.TypeSuffix.{TypeSuffix}
use Rattle.vba_words.specs.declared.identifier.Identifier.{Identifier}
use Rattle.vba_words.specs.declared.keyword.Keyword.{Keyword}
use Rattle.vba_words.specs.declared.keyword.Keyword.TheVariants as keyword
use Rattle.vba_words.specs.declared.mark.Mark.{Mark}
use Rattle.vba_words.specs.declared.mark.Mark.TheVariants as mark
use Rattle.vba_words.specs.declared.reading.Reading.{Reading}
use Rattle.vba_words.specs.declared.reading.Reading.TheVariants as reading
use Rattle.vba_words.specs.declared.reading.ReadToken.{ReadToken}
use Rattle.vba_words.specs.Spelling.{read, word, marked, naming}
use Rattle.vba_expression.specs.declared.operator.UnaryOperator.{UnaryOperator}
use Rattle.vba_expression.specs.declared.operator.UnaryOperator.TheVariants as unary_op
use Rattle.vba_expression.specs.declared.operator.BinaryOperator.{BinaryOperator}
use Rattle.vba_expression.specs.declared.operator.BinaryOperator.TheVariants as op
use Rattle.vba_expression.specs.declared.tree.TypeQualifier.{TypeQualifier}
use Rattle.vba_expression.specs.declared.part.Part.{Part}
use Rattle.vba_expression.specs.declared.part.Part.TheVariants as part
use Rattle.vba_expression.specs.Tree.{Expr, literal, me, name, with_member, member, index, parenthesised, new, type_of, unary, binary, no_args, missing, plain, named}
use Rattle.vba_expression.specs.Spelling.{literal_reading, unary_reading, binary_reading, comma_tokens, spell, spell_args}
use Rattle.vba_expression.specs.Fitting.{unary_level, binary_level, level, is_none, CommaFits, HasPlainNames, Fits, FitsArgs}
use Rattle.vba_expression.specs.Parts.{keyword_part, mark_part, reading_part, part_of}
use Rattle.vba_expression.specs.Reader.{Head, call, behind, Frame, whole, right_operand, unary_operand, inner, type_of_operand, argument, named_argument, State, want, have, dotted, with_dotted, new_wanted, class_wanted, room, reduce, loosest, short_type, new_behind_dot, type_of_behind_dot, behind_dot, operated, operating, next_argument, missing_argument, closed, closed_early, naming_argument, wanted, had, unless_suffixed, after, step, next, run}
use Rattle.vba_expression.proofs.Reducing.{binary_positive}

-- the token that a part stands for
abbrev pub token_of : Token → Part → ReadToken
token_of t (part.Literal v) = read t (literal_reading v)
token_of t (part.Name x) = naming x
token_of t part.Me = word t keyword.Me
token_of t part.New = word t keyword.New
token_of t part.TypeOf = word t keyword.TypeOf
token_of t part.Not = word t keyword.Not
token_of t (part.Operator o) = read t (binary_reading o)
token_of t part.LeftParenthesis = marked t mark.LeftParenthesis
token_of t part.RightParenthesis = marked t mark.RightParenthesis
token_of t part.Comma = marked t mark.Comma
token_of t part.Dot = marked t mark.Dot
token_of t part.WithDot = marked t mark.WithDot
token_of t part.ColonEqual = marked t mark.ColonEqual
token_of t part.Outside = read t reading.Other

-- a token is what its part stands for, but where it is outside of expressions
abbrev pub Stands : ReadToken → Part → Type 0
Stands t part.Outside = Unit {0}
Stands t p = t ≡ token_of t.token p

keyword_stands : (t : Token) (k : Keyword) → Stands (word t k) (keyword_part k)
keyword_stands t keyword.True = refl
keyword_stands t keyword.False = refl
keyword_stands t keyword.Nothing = refl
keyword_stands t keyword.Null = refl
keyword_stands t keyword.Empty = refl
keyword_stands t keyword.Me = refl
keyword_stands t keyword.New = refl
keyword_stands t keyword.TypeOf = refl
keyword_stands t keyword.Not = refl
keyword_stands t keyword.Mod = refl
keyword_stands t keyword.Is = refl
keyword_stands t keyword.And = refl
keyword_stands t keyword.Or = refl
keyword_stands t keyword.Xor = refl
keyword_stands t keyword.Eqv = refl
keyword_stands t keyword.Imp = refl
keyword_stands t other = tt

mark_stands : (t : Token) (m : Mark) → Stands (marked t m) (mark_part m)
mark_stands t mark.Colon = tt
mark_stands t mark.Semicolon = tt
mark_stands t mark.Exclamation = tt
mark_stands t mark.NumberSign = tt
mark_stands t other = refl

reading_stands : (t : Token) (r : Reading) → Stands (read t r) (reading_part t r)
reading_stands t (reading.Keyword k) = keyword_stands t k
reading_stands t (reading.Name n suffix is_bracketed) = refl
reading_stands t (reading.Number n is_plain) = refl
reading_stands t (reading.Text text) = refl
reading_stands t (reading.Mark m) = mark_stands t m
reading_stands t reading.Other = tt

pub stands : (t : ReadToken) → Stands t (part_of t)
stands t = reading_stands t.token t.reading

abbrev pub opening : Head → List ReadToken
opening call = []
opening (behind f l) = spell f ++ marked l mark.LeftParenthesis ∷ []

-- what was read so far
abbrev pub told : Frame → List ReadToken
told (whole limit) = []
told (right_operand a o t) = spell a ++ read t (binary_reading o) ∷ []
told (unary_operand u t) = read t (unary_reading u) ∷ []
told (inner l) = marked l mark.LeftParenthesis ∷ []
told (type_of_operand t) = word t keyword.TypeOf ∷ []
told (argument h xs c) = opening h ++ (spell_args xs ++ comma_tokens c)
told (named_argument h xs c x g) = opening h ++ (spell_args xs ++ (comma_tokens c ++ naming x ∷ marked g mark.ColonEqual ∷ []))

abbrev pub frames : List Frame → List ReadToken
frames [] = []
frames (f ∷ fs) = frames fs ++ told f

abbrev pub so_far : State → List ReadToken
so_far (want fs) = frames fs
so_far (have e fs) = frames fs ++ spell e
so_far (dotted e d fs) = frames fs ++ (spell e ++ marked d mark.Dot ∷ [])
so_far (with_dotted d fs) = frames fs ++ marked d mark.WithDot ∷ []
so_far (new_wanted t fs) = frames fs ++ word t keyword.New ∷ []
so_far (class_wanted t e i fs) = frames fs ++ word t keyword.TypeOf ∷ (spell e ++ word i keyword.Is ∷ [])

abbrev pub FitsHead : Head → Type 0
FitsHead call = Unit {0}
FitsHead (behind f l) = (level f ≡ 0) × Fits f

-- a dot and a name behind a primary are a primary that fits
pub record Behind (e e1 : Expr) (d : Token) (x : Identifier) : Type 0 where
  pub same : spell e1 ≡ spell e ++ marked d mark.Dot ∷ naming x ∷ []
  pub primary : level e1 ≡ 0
  pub fits : Fits e1

pub dot_fits : (e : Expr) (d : Token) (x : Identifier) → level e ≡ 0 → Fits e → Behind e (behind_dot e d x) d x
dot_fits (new t class) d x l w = at class.qualifier class.name x.suffix refl w
  where
    at : (q : Option TypeQualifier) (n : Identifier) (s : Option TypeSuffix) → x.suffix ≡ s → HasPlainNames (record { qualifier = q; name = n })
        → Behind (new t (record { qualifier = q; name = n })) (new_behind_dot t q n d x s) d x
    at None n None h w = record { same = refl; primary = refl; fits = (h, w.0) }
    at None n (Some s) h w = record { same = refl; primary = refl; fits = (refl, w, ap is_none h) }
    at (Some q) n s h w = record { same = refl; primary = refl; fits = (refl, w, refl) }
dot_fits (type_of t e i class) d x l w = at class.qualifier class.name x.suffix refl (w.0, w.1) w.2
  where
    text : (s : List ReadToken) (a b c f : ReadToken) → s ++ a ∷ b ∷ c ∷ f ∷ [] ≡ (s ++ a ∷ b ∷ []) ++ c ∷ f ∷ []
    text s a b c f = simp append_assoc

    at : (q : Option TypeQualifier) (n : Identifier) (s : Option TypeSuffix) → x.suffix ≡ s → (level e ≡ 0) × Fits e
        → HasPlainNames (record { qualifier = q; name = n })
        → Behind (type_of t e i (record { qualifier = q; name = n })) (type_of_behind_dot t e i q n d x s) d x
    at None n None h v w =
        record {
          same = ap (λ ts. word t keyword.TypeOf ∷ ts) (text (spell e) (word i keyword.Is) (naming n) (marked d mark.Dot) (naming x));
          primary = refl;
          fits = (v.0, v.1, (h, w.0));
        }
    at None n (Some s) h v w = record { same = refl; primary = refl; fits = (refl, (v.0, v.1, w), ap is_none h) }
    at (Some q) n s h v w = record { same = refl; primary = refl; fits = (refl, (v.0, v.1, w), refl) }
dot_fits (literal k) d x l w = record { same = refl; primary = refl; fits = (l, w, refl) }
dot_fits (me t) d x l w = record { same = refl; primary = refl; fits = (l, w, refl) }
dot_fits (name y) d x l w = record { same = refl; primary = refl; fits = (l, w, refl) }
dot_fits (with_member c y) d x l w = record { same = refl; primary = refl; fits = (l, w, refl) }
dot_fits (member e c y) d x l w = record { same = refl; primary = refl; fits = (l, w, refl) }
dot_fits (index e k xs r) d x l w = record { same = refl; primary = refl; fits = (l, w, refl) }
dot_fits (parenthesised k e r) d x l w = record { same = refl; primary = refl; fits = (l, w, refl) }
dot_fits (unary u t e) d x l w = record { same = refl; primary = refl; fits = (l, w, refl) }
dot_fits (binary a o t b) d x l w = record { same = refl; primary = refl; fits = (l, w, refl) }

bin_text : (f s e : List ReadToken) (t : ReadToken) → f ++ (s ++ t ∷ e) ≡ (f ++ (s ++ t ∷ [])) ++ e
bin_text f s e t = simp append_assoc

in_text : (f s a r : List ReadToken) (t : ReadToken) → f ++ (s ++ t ∷ (a ++ r)) ≡ (f ++ ((s ++ t ∷ []) ++ a)) ++ r
in_text f s a r t = simp append_assoc

open_text : (f h a r : List ReadToken) → f ++ (h ++ (a ++ r)) ≡ (f ++ (h ++ a)) ++ r
open_text f h a r = simp append_assoc

next_text : (f h a c e r : List ReadToken) → f ++ (h ++ ((a ++ (c ++ e)) ++ r)) ≡ ((f ++ (h ++ (a ++ c))) ++ e) ++ r
next_text f h a c e r = simp append_assoc

named_next_text : (f h a c e r : List ReadToken) (n g : ReadToken)
    → f ++ (h ++ ((a ++ (c ++ n ∷ g ∷ e)) ++ r)) ≡ ((f ++ (h ++ (a ++ (c ++ n ∷ g ∷ [])))) ++ e) ++ r
named_next_text f h a c e r n g = simp append_assoc

arg_text : (f s a c e r : List ReadToken) (t : ReadToken)
    → f ++ (s ++ t ∷ ((a ++ (c ++ e)) ++ r)) ≡ ((f ++ ((s ++ t ∷ []) ++ (a ++ c))) ++ e) ++ r
arg_text f s a c e r t = simp append_assoc

named_text : (f s a c e r : List ReadToken) (t n g : ReadToken)
    → f ++ (s ++ t ∷ ((a ++ (c ++ n ∷ g ∷ e)) ++ r)) ≡ ((f ++ ((s ++ t ∷ []) ++ (a ++ (c ++ n ∷ g ∷ [])))) ++ e) ++ r
named_text f s a c e r t n g = simp append_assoc

paren_text : (f e r : List ReadToken) (t : ReadToken) → f ++ t ∷ (e ++ r) ≡ ((f ++ t ∷ []) ++ e) ++ r
paren_text f e r t = simp append_assoc

gets_text : (f h a c : List ReadToken) (n g : ReadToken) → f ++ (h ++ (a ++ (c ++ n ∷ g ∷ []))) ≡ ((f ++ (h ++ (a ++ c))) ++ n ∷ []) ++ g ∷ []
gets_text f h a c n g = simp append_assoc

open_paren : (f s : List ReadToken) (t : ReadToken) → f ++ ((s ++ t ∷ []) ++ []) ≡ (f ++ s) ++ t ∷ []
open_paren f s t = ap (λ x. f ++ x) (append-nil (s ++ t ∷ [])) ∙ sym (append_assoc f s (t ∷ []))

dot_text : (f s : List ReadToken) (d n : ReadToken) → f ++ (s ++ d ∷ n ∷ []) ≡ (f ++ (s ++ d ∷ [])) ++ n ∷ []
dot_text f s d n = simp append_assoc

class_text : (f e : List ReadToken) (t i n : ReadToken) → f ++ t ∷ (e ++ i ∷ n ∷ []) ≡ (f ++ t ∷ (e ++ i ∷ [])) ++ n ∷ []
class_text f e t i n = simp append_assoc

module _ (floor : ℕ) where
  abbrev pub FitsFrame : Frame → List Frame → Type 0
  FitsFrame (whole limit) fs = (0 < limit) × (limit ≡ floor)
  FitsFrame (right_operand a o t) fs = (level a ≤ binary_level o) × Fits a × (binary_level o < room fs)
  FitsFrame (unary_operand u t) fs = unary_level u < room fs
  FitsFrame (inner l) fs = Unit {0}
  FitsFrame (type_of_operand t) fs = Unit {0}
  FitsFrame (argument h xs c) fs = FitsHead h × FitsArgs xs × CommaFits xs c
  FitsFrame (named_argument h xs c x g) fs = FitsHead h × FitsArgs xs × CommaFits xs c

  abbrev pub FitsFrames : List Frame → Type 0
  FitsFrames [] = Unit {0}
  FitsFrames (f ∷ fs) = FitsFrame f fs × FitsFrames fs

  abbrev pub FitsState : State → Type 0
  FitsState (want fs) = FitsFrames fs
  FitsState (have e fs) = (level e ≡ 0) × Fits e × FitsFrames fs
  FitsState (dotted e d fs) = (level e ≡ 0) × Fits e × FitsFrames fs
  FitsState (with_dotted d fs) = FitsFrames fs
  FitsState (new_wanted t fs) = FitsFrames fs
  FitsState (class_wanted t e i fs) = (level e ≡ 0) × Fits e × FitsFrames fs

  -- an operand of level at most k, below frames that take k
  pub record Reduced (k : ℕ) (ts : List ReadToken) (p : Expr × List Frame) : Type 0 where
    pub same : frames p.1 ++ spell p.0 ≡ ts
    pub fits : Fits p.0
    pub below : FitsFrames p.1
    pub tight : level p.0 ≤ k
    pub under : level p.0 < room p.1

  reduced_if : (k n : ℕ) (ts : List ReadToken) (x y : Expr × List Frame) → (k < n → Reduced k ts x) → (n ≤ k → Reduced k ts y)
      → Reduced k ts (if nat_lt k n then x else y)
  reduced_if k n ts x y h g = cond_both (nat_lt k n) x y (λ p. Reduced k ts p) (λ e. h (ltb-true k n e)) (λ e. g (ltb-false k n e))

  with_text : (k : ℕ) (ts us : List ReadToken) (p : Expr × List Frame) → ts ≡ us → Reduced k ts p → Reduced k us p
  with_text k ts us p e r = record { same = r.same ∙ e; fits = r.fits; below = r.below; tight = r.tight; under = r.under }

  reduced : (k : ℕ) (e : Expr) (fs : List Frame) → FitsFrames fs → Fits e → level e < room fs → level e ≤ k
      → Reduced k (frames fs ++ spell e) (reduce k e fs)
  reduced k e [] w v l m = record { same = refl; fits = v; below = w; tight = m; under = l }
  reduced k e (right_operand a o t ∷ fs) w v l m = reduced_if k (binary_level o) _ _ _
      (λ lt. record { same = refl; fits = v; below = w; tight = m; under = l })
      (λ le. with_text k _ _ _ (bin_text (frames fs) (spell a) (spell e) (read t (binary_reading o)))
      (reduced k (binary a o t e) fs w.1 (w.0.0, l, w.0.1, v) w.0.2 le))
  reduced k e (unary_operand u t ∷ fs) w v l m = reduced_if k (suc (unary_level u)) _ _ _
      (λ lt. record { same = refl; fits = v; below = w; tight = m; under = l })
      (λ le. with_text k _ _ _ (sym (append_assoc (frames fs) (read t (unary_reading u) ∷ []) (spell e)))
      (reduced k (unary u t e) fs w.1 (omega arith, v) w.0 (omega arith)))
  reduced k e (whole limit ∷ fs) w v l m = record { same = refl; fits = v; below = w; tight = m; under = l }
  reduced k e (inner left ∷ fs) w v l m = record { same = refl; fits = v; below = w; tight = m; under = l }
  reduced k e (type_of_operand t ∷ fs) w v l m = record { same = refl; fits = v; below = w; tight = m; under = l }
  reduced k e (argument h xs c ∷ fs) w v l m = record { same = refl; fits = v; below = w; tight = m; under = l }
  reduced k e (named_argument h xs c x g ∷ fs) w v l m = record { same = refl; fits = v; below = w; tight = m; under = l }

  pub room_above : (fs : List Frame) → FitsFrames fs → 0 < room fs
  room_above [] w = omega arith
  room_above (whole limit ∷ fs) w = w.0.0
  room_above (right_operand a o t ∷ fs) w = binary_positive o
  room_above (unary_operand u t ∷ fs) w = omega arith
  room_above (inner left ∷ fs) w = omega arith
  room_above (type_of_operand t ∷ fs) w = omega arith
  room_above (argument h xs c ∷ fs) w = omega arith
  room_above (named_argument h xs c x g ∷ fs) w = omega arith

  pub ready : (k : ℕ) (e : Expr) (fs : List Frame) → FitsState (have e fs) → Reduced k (frames fs ++ spell e) (reduce k e fs)
  ready k e fs w = reduced k e fs w.2 w.1 (omega (arith, room_above fs w.2, w.0)) (omega (arith, w.0))

  -- what a step makes of it
  abbrev pub Told : List ReadToken → Option State → Type 0
  Told ts None = Unit {0}
  Told ts (Some s) = (so_far s ≡ ts) × FitsState s

  told_if : (b : Bool) (ts : List ReadToken) (s : State) → (b ≡ true → Told ts (Some s)) → Told ts (if b then Some s else None)
  told_if b ts s h = cond_both b (Some s) None (Told ts) h (λ e. tt)

  told_operating : (fs : List Frame) (u : UnaryOperator) (t : Token) → FitsFrames fs
      → Told (frames fs ++ read t (unary_reading u) ∷ []) (operating fs u t)
  told_operating fs u t w = told_if (nat_lt (unary_level u) (room fs)) _ _ (λ e. (refl, (ltb-true (unary_level u) (room fs) e, w)))

  told_early : (fs : List Frame) (r : Token) → FitsFrames fs → Told (frames fs ++ marked r mark.RightParenthesis ∷ []) (closed_early fs r)
  told_early (argument (behind f l) no_args None ∷ fs) r w =
      (in_text (frames fs) (spell f) [] (marked r mark.RightParenthesis ∷ []) (marked l mark.LeftParenthesis), (refl, (w.0.0.0, w.0.0.1, tt, refl), w.1))
  told_early (argument (behind f l) no_args (Some c) ∷ fs) r w = absurd w.0.2
  told_early (argument (behind f l) (missing xs d) (Some c) ∷ fs) r w = (
    in_text (frames fs) (spell f) (spell_args (missing xs d) ++ marked c mark.Comma ∷ []) (marked r mark.RightParenthesis ∷ []) (marked l mark.LeftParenthesis),
    (refl, (w.0.0.0, w.0.0.1, (w.0.1, tt), refl), w.1),
  )
  told_early (argument (behind f l) (plain xs d e) (Some c) ∷ fs) r w = (
    in_text (frames fs) (spell f) (spell_args (plain xs d e) ++ marked c mark.Comma ∷ []) (marked r mark.RightParenthesis ∷ []) (marked l mark.LeftParenthesis),
    (refl, (w.0.0.0, w.0.0.1, (w.0.1, tt), refl), w.1),
  )
  told_early (argument (behind f l) (named xs d x g e) (Some c) ∷ fs) r w = (
    in_text (frames fs) (spell f) (spell_args (named xs d x g e) ++ marked c mark.Comma ∷ []) (marked r mark.RightParenthesis ∷ []) (marked l mark.LeftParenthesis),
    (refl, (w.0.0.0, w.0.0.1, (w.0.1, tt), refl), w.1),
  )
  told_early (argument (behind f l) xs None ∷ fs) r w = absurd w.0.2
  told_early other r w = tt

  told_missing : (fs : List Frame) (t : Token) → FitsFrames fs → Told (frames fs ++ marked t mark.Comma ∷ []) (missing_argument fs t)
  told_missing (argument h xs c ∷ fs) t w =
      (open_text (frames fs) (opening h) (spell_args xs ++ comma_tokens c) (marked t mark.Comma ∷ []), ((w.0.0, (w.0.1, w.0.2), tt), w.1))
  told_missing other t w = tt

  told_naming : (e : Expr) (fs : List Frame) (t : Token) → FitsFrames fs
      → Told ((frames fs ++ spell e) ++ marked t mark.ColonEqual ∷ []) (naming_argument e fs t)
  told_naming (name x) (argument h xs c ∷ fs) t w =
      (gets_text (frames fs) (opening h) (spell_args xs) (comma_tokens c) (naming x) (marked t mark.ColonEqual), w)
  told_naming e fs t w = tt

  told_next : (e : Expr) (fs : List Frame) (t : Token) (ts : List ReadToken) → Reduced loosest ts (e, fs)
      → Told (ts ++ marked t mark.Comma ∷ []) (next_argument e fs t)
  told_next e (argument h xs c ∷ fs) t ts r = (
    next_text (frames fs) (opening h) (spell_args xs) (comma_tokens c) (spell e) (marked t mark.Comma ∷ [])
        ∙ ap (λ us. us ++ marked t mark.Comma ∷ []) r.same,
    ((r.below.0.0, (r.below.0.1, r.below.0.2, r.fits), tt), r.below.1),
  )
  told_next e (named_argument h xs c x g ∷ fs) t ts r = (
    named_next_text (frames fs) (opening h) (spell_args xs) (comma_tokens c) (spell e) (marked t mark.Comma ∷ []) (naming x) (marked g mark.ColonEqual)
        ∙ ap (λ us. us ++ marked t mark.Comma ∷ []) r.same,
    ((r.below.0.0, (r.below.0.1, r.below.0.2, r.fits), tt), r.below.1),
  )
  told_next e other t ts r = tt

  told_closed : (e : Expr) (fs : List Frame) (t : Token) (ts : List ReadToken) → Reduced loosest ts (e, fs)
      → Told (ts ++ marked t mark.RightParenthesis ∷ []) (closed e fs t)
  told_closed e (inner l ∷ fs) t ts r = (
    paren_text (frames fs) (spell e) (marked t mark.RightParenthesis ∷ []) (marked l mark.LeftParenthesis)
        ∙ ap (λ us. us ++ marked t mark.RightParenthesis ∷ []) r.same,
    (refl, r.fits, r.below.1),
  )
  told_closed e (argument (behind f l) xs c ∷ fs) t ts r = (
    arg_text (frames fs) (spell f) (spell_args xs) (comma_tokens c) (spell e) (marked t mark.RightParenthesis ∷ []) (marked l mark.LeftParenthesis)
        ∙ ap (λ us. us ++ marked t mark.RightParenthesis ∷ []) r.same,
    (refl, (r.below.0.0.0, r.below.0.0.1, (r.below.0.1, r.below.0.2, r.fits), refl), r.below.1),
  )
  told_closed e (named_argument (behind f l) xs c x g ∷ fs) t ts r = (
    named_text (frames fs) (spell f) (spell_args xs) (comma_tokens c) (spell e) (marked t mark.RightParenthesis ∷ []) (marked l mark.LeftParenthesis) (naming x) (marked g mark.ColonEqual)
        ∙ ap (λ us. us ++ marked t mark.RightParenthesis ∷ []) r.same,
    (refl, (r.below.0.0.0, r.below.0.0.1, (r.below.0.1, r.below.0.2, r.fits), refl), r.below.1),
  )
  told_closed e other t ts r = tt

  told_is : (o : BinaryOperator) (e : Expr) (w : Token) (fs : List Frame) (t : Token) (ts : List ReadToken)
      → Reduced (binary_level o) ts (e, type_of_operand w ∷ fs) → Told (ts ++ read t (binary_reading o) ∷ []) (operated e (type_of_operand w ∷ fs) o t)
  told_is op.Is e w fs t ts r = (
    paren_text (frames fs) (spell e) (word t keyword.Is ∷ []) (word w keyword.TypeOf) ∙ ap (λ us. us ++ word t keyword.Is ∷ []) r.same,
    (omega (arith, r.under), r.fits, r.below.1),
  )
  told_is other e w fs t ts r = tt

  told_right : (o : BinaryOperator) (e : Expr) (fs : List Frame) (t : Token) (ts : List ReadToken) → Reduced (binary_level o) ts (e, fs)
      → Told (ts ++ read t (binary_reading o) ∷ []) (if nat_lt (binary_level o) (room fs) then Some (want (right_operand e o t ∷ fs)) else None)
  told_right o e fs t ts r = told_if (nat_lt (binary_level o) (room fs)) _ _
      (λ h. (
        sym (append_assoc (frames fs) (spell e) (read t (binary_reading o) ∷ [])) ∙ ap (λ us. us ++ read t (binary_reading o) ∷ []) r.same,
        ((r.tight, r.fits, ltb-true (binary_level o) (room fs) h), r.below),
      ))

  told_operated : (o : BinaryOperator) (e : Expr) (fs : List Frame) (t : Token) (ts : List ReadToken) → Reduced (binary_level o) ts (e, fs)
      → Told (ts ++ read t (binary_reading o) ∷ []) (operated e fs o t)
  told_operated o e (type_of_operand w ∷ fs) t ts r = told_is o e w fs t ts r
  told_operated o e fs t ts r = told_right o e fs t ts r

  told_wanted : (fs : List Frame) (t : Token) (p : Part) → FitsFrames fs → Told (frames fs ++ token_of t p ∷ []) (wanted fs t p)
  told_wanted fs t (part.Literal v) w = (refl, (refl, tt, w))
  told_wanted fs t (part.Name x) w = (refl, (refl, tt, w))
  told_wanted fs t part.Me w = (refl, (refl, tt, w))
  told_wanted fs t part.New w = (refl, w)
  told_wanted fs t part.TypeOf w = (refl, (tt, w))
  told_wanted fs t part.Not w = told_operating fs unary_op.Not t w
  told_wanted fs t (part.Operator op.Subtract) w = told_operating fs unary_op.Minus t w
  told_wanted fs t part.LeftParenthesis w = (refl, (tt, w))
  told_wanted fs t part.RightParenthesis w = told_early fs t w
  told_wanted fs t part.Comma w = told_missing fs t w
  told_wanted fs t part.WithDot w = (refl, w)
  told_wanted fs t other w = tt

  told_had : (e : Expr) (fs : List Frame) (t : Token) (p : Part) → FitsState (have e fs)
      → Told ((frames fs ++ spell e) ++ token_of t p ∷ []) (had e fs t p)
  told_had e fs t (part.Operator o) w = told_operated o _ _ t _ (ready (binary_level o) e fs w)
  told_had e fs t part.LeftParenthesis w = (open_paren (frames fs) (spell e) (marked t mark.LeftParenthesis), (((w.0, w.1), tt, tt), w.2))
  told_had e fs t part.Dot w = (sym (append_assoc (frames fs) (spell e) (marked t mark.Dot ∷ [])), w)
  told_had e fs t part.Comma w = told_next _ _ t _ (ready loosest e fs w)
  told_had e fs t part.RightParenthesis w = told_closed _ _ t _ (ready loosest e fs w)
  told_had e fs t part.ColonEqual w = told_naming e fs t w.2
  told_had e fs t other w = tt

  told_member : (e : Expr) (d : Token) (x : Identifier) (fs : List Frame) → FitsState (dotted e d fs)
      → Told (so_far (dotted e d fs) ++ naming x ∷ []) (Some (have (behind_dot e d x) fs))
  told_member e d x fs w =
      let b = dot_fits e d x w.0 w.1 in
      (ap (λ ts. frames fs ++ ts) b.same ∙ dot_text (frames fs) (spell e) (marked d mark.Dot) (naming x), (b.primary, b.fits, w.2))

  -- the name of a type has no suffix
  told_class : (o : Option TypeSuffix) (ts : List ReadToken) (next : Identifier → State) (x : Identifier)
      → (o ≡ None → (so_far (next x) ≡ ts) × FitsState (next x)) → Told ts (option_map next (unless_suffixed o x))
  told_class None ts next x h = h refl
  told_class (Some suffix) ts next x h = tt

  told_after : (s : State) (t : Token) (p : Part) → FitsState s → Told (so_far s ++ token_of t p ∷ []) (after s t p)
  told_after (want fs) t p w = told_wanted fs t p w
  told_after (have e fs) t p w = told_had e fs t p w
  told_after (dotted e d fs) t (part.Name x) w = told_member e d x fs w
  told_after (dotted e d fs) t other w = tt
  told_after (with_dotted d fs) t (part.Name x) w =
      (sym (append_assoc (frames fs) (marked d mark.WithDot ∷ []) (naming x ∷ [])), (refl, tt, w))
  told_after (with_dotted d fs) t other w = tt
  told_after (new_wanted n fs) t (part.Name x) w =
      told_class x.suffix _ (λ y. have (new n (short_type y)) fs) x (λ h. (sym (append_assoc (frames fs) (word n keyword.New ∷ []) (naming x ∷ [])), (refl, (h, tt), w)))
  told_after (new_wanted n fs) t other w = tt
  told_after (class_wanted n e i fs) t (part.Name x) w =
      told_class x.suffix _ (λ y. have (type_of n e i (short_type y)) fs) x
      (λ h. (class_text (frames fs) (spell e) (word n keyword.TypeOf) (word i keyword.Is) (naming x), (refl, (w.0, w.1, (h, tt)), w.2)))
  told_after (class_wanted n e i fs) t other w = tt

  told_outside : (s : State) (t : Token) (ts : List ReadToken) → Told ts (after s t part.Outside)
  told_outside (want fs) t ts = tt
  told_outside (have e fs) t ts = tt
  told_outside other t ts = tt

  told_token : (s : State) (t : ReadToken) (p : Part) → Stands t p → FitsState s → Told (so_far s ++ t ∷ []) (after s t.token p)
  told_token s t part.Outside h w = told_outside s t.token _
  told_token s t p h w = subst (λ u. Told (so_far s ++ u ∷ []) (after s t.token p)) (sym h) (told_after s t.token p w)

  pub told_step : (s : State) (t : ReadToken) → FitsState s → Told (so_far s ++ t ∷ []) (step s t)
  told_step s t w = told_token s t (part_of t) (stands t) w

  -- a reading ends where it can't go on
  abbrev pub Ended : State → List ReadToken → Type 0
  Ended s [] = Unit {0}
  Ended s (t ∷ ts) = step s t ≡ None

  -- what a reading leaves
  abbrev pub Ran : List ReadToken → State × List ReadToken → Type 0
  Ran ts r = (so_far r.0 ++ r.1 ≡ ts) × FitsState r.0 × Ended r.0 r.1

  told_go : (s : State) (t : ReadToken) (ts : List ReadToken) (o : Option State) → step s t ≡ o → FitsState s → Told (so_far s ++ t ∷ []) o
      → ((s1 : State) → FitsState s1 → Ran (so_far s1 ++ ts) (run s1 ts)) → Ran (so_far s ++ t ∷ ts) (next o (λ s1. run s1 ts) (s, t ∷ ts))
  told_go s t ts None e w h more = (refl, w, e)
  told_go s t ts (Some s1) e w h more =
      let r = more s1 h.1 in
      (r.0 ∙ (ap (λ us. us ++ ts) h.0 ∙ append_assoc (so_far s) (t ∷ []) ts), r.1, r.2)

  pub told_run : (s : State) (ts : List ReadToken) → FitsState s → Ran (so_far s ++ ts) (run s ts)
  told_run s [] w = (refl, w, tt)
  told_run s (t ∷ ts) w = told_go s t ts (step s t) refl w (told_step s t w) (λ s1 w1. told_run s1 ts w1)
