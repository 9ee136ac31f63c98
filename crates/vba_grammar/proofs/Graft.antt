-- Where a place and arguments stand at the front, there is a longest primary.
use Rattle.std.proofs.Common.{◌≡◌, ◌≤◌, true, false, ◌&&◌, List, [], ◌∷◌, ◌++◌, Option, Some, None, refl, sym, ap, ◌∙◌, subst, arith, append_assoc}
use Rattle.vba_lexer.specs.declared.token.Token.{Token}
use Rattle.vba_words.specs.declared.identifier.Identifier.{Identifier}
use Rattle.vba_words.specs.declared.mark.Mark.TheVariants as mark
use Rattle.vba_words.specs.declared.reading.ReadToken.{ReadToken}
use Rattle.vba_words.specs.Spelling.{read, marked, naming}
use Rattle.vba_expression.specs.declared.operator.UnaryOperator.{UnaryOperator}
use Rattle.vba_expression.specs.declared.operator.UnaryOperator.TheVariants as unary_op
use Rattle.vba_expression.specs.declared.operator.BinaryOperator.{BinaryOperator}
use Rattle.vba_expression.specs.declared.part.Part.{Part}
use Rattle.vba_expression.specs.declared.part.Part.TheVariants as part
use Rattle.vba_expression.specs.Tree.{Expr, literal, member, index, parenthesised, unary, binary, Args, no_args, missing, plain, named}
use Rattle.vba_expression.specs.Spelling.{spell, spell_args, unary_reading, binary_reading, comma_tokens}
use Rattle.vba_expression.specs.Fitting.{binary_level, level, is_none, has_short_type, CommaFits, Fits, FitsArgs}
use Rattle.vba_expression.specs.Parts.{part_of}
use Rattle.vba_expression.specs.Reader.{call, argument, want, after, settled, finished_arguments, with_rest, expression_at, arguments_at}
use Rattle.vba_expression.specs.Taking.{StopsAt, Stops}
use Rattle.vba_expression.proofs.Reducing.{binary_positive}
use Rattle.vba_expression.proofs.Complete.{literal_part, binary_part, refused}
use Rattle.vba_expression.proofs.Inverses.{again, Found, FoundArgs, args_again, args_pair}
use Rattle.vba_grammar.specs.Front.{ends}
use Rattle.vba_grammar.proofs.Calm.{end_stops, end_closes, end_outside}
use Rattle.vba_grammar.proofs.Spine.{Written, dotted, closing}

abbrev IsOpen : List ReadToken → Type 0
IsOpen [] = ⊥
IsOpen (t ∷ ts) = part_of t ≡ part.LeftParenthesis

-- a primary in brackets at the front
pub record Prim (ts : List ReadToken) : Type 0 where
  pub tree : Expr
  pub rest : List ReadToken
  pub same : ts ≡ spell tree ++ rest
  pub under : level tree ≡ 0
  pub fits : Fits tree
  pub stops : Stops 1 rest
  pub open_ : IsOpen (spell tree ++ rest)

prim_along : (ts us : List ReadToken) → ts ≡ us → Prim us → Prim ts
prim_along ts us e p =
    record { tree = p.tree; rest = p.rest; same = e ∙ p.same; under = p.under; fits = p.fits; stops = p.stops; open_ = p.open_ }

closed_unary : (t : Token) (u : UnaryOperator) → part_of (read t (unary_reading u)) ≡ part.LeftParenthesis → ⊥
closed_unary t unary_op.Minus h = absurd cc
closed_unary t unary_op.Not h = absurd cc

operator_stops : (t : Token) (o : BinaryOperator) (ts : List ReadToken) → Stops 1 (read t (binary_reading o) ∷ ts)
operator_stops t o ts = subst (StopsAt 1) (sym (binary_part t o)) (let h : 1 ≤ binary_level o = omega (arith, binary_positive o) in h)

prim : (e : Expr) (r : List ReadToken) → Stops 1 r → Fits e → IsOpen (spell e ++ r) → Prim (spell e ++ r)
prim (parenthesised l e c) r st w h =
    record { tree = parenthesised l e c; rest = r; same = refl; under = refl; fits = w; stops = st; open_ = h }
prim (member e d x) r st w h = record { tree = member e d x; rest = r; same = refl; under = refl; fits = w; stops = st; open_ = h }
prim (index f l xs c) r st w h = record { tree = index f l xs c; rest = r; same = refl; under = refl; fits = w; stops = st; open_ = h }
prim (binary a o t b) r st w h =
    let e = append_assoc (spell a) (read t (binary_reading o) ∷ spell b) r in
    prim_along _ _ e (prim a (read t (binary_reading o) ∷ (spell b ++ r)) (operator_stops t o (spell b ++ r)) w.2 (subst IsOpen e h))
prim (literal l) r st w h = let f = sym (literal_part l.token l.value) ∙ h in absurd cc
prim (unary u t e) r st w h = absurd (closed_unary t u h)
prim other r st w h = absurd cc

comma_stops : (c : Option Token) (r : List ReadToken) → Stops 1 r → Stops 1 (comma_tokens c ++ r)
comma_stops None r h = h
comma_stops (Some t) r h = tt

not_open : (r : List ReadToken) → Stops 1 r → IsOpen r → ⊥
not_open [] st h = h
not_open (t ∷ ts) st h = subst (StopsAt 1) h st

abbrev Front : Args → Type 0
Front xs = (r : List ReadToken) → Stops 1 r → IsOpen (spell_args xs ++ r) → Prim (spell_args xs ++ r)

front_next : (xs : Args) (t : Token) (e r : List ReadToken) → Front xs → IsOpen ((spell_args xs ++ marked t mark.Comma ∷ e) ++ r)
    → Prim ((spell_args xs ++ marked t mark.Comma ∷ e) ++ r)
front_next xs t e r f h =
    let q = append_assoc (spell_args xs) (marked t mark.Comma ∷ e) r in
    prim_along _ _ q (f (marked t mark.Comma ∷ (e ++ r)) tt (subst IsOpen q h))

front_plain : (xs : Args) (c : Option Token) (e : Expr) (r : List ReadToken) → Stops 1 r → CommaFits xs c → Fits e → Front xs
    → IsOpen (spell_args (plain xs c e) ++ r) → Prim (spell_args (plain xs c e) ++ r)
front_plain no_args None e r st c w f h = prim e r st w h
front_plain xs (Some t) e r st c w f h = front_next xs t (spell e) r f h
front_plain xs None e r st c w f h = absurd c

front_named : (xs : Args) (c : Option Token) (y : Identifier) (g : Token) (e : Expr) (r : List ReadToken) → CommaFits xs c → Front xs
    → IsOpen (spell_args (named xs c y g e) ++ r) → Prim (spell_args (named xs c y g e) ++ r)
front_named no_args None y g e r c f h = absurd cc
front_named xs (Some t) y g e r c f h = front_next xs t (naming y ∷ marked g mark.ColonEqual ∷ spell e) r f h
front_named xs None y g e r c f h = absurd c

prim_args : (xs : Args) → FitsArgs xs → Front xs
prim_args no_args w r st h = absurd (not_open r st h)
prim_args (missing xs c) w r st h =
    let e = append_assoc (spell_args xs) (comma_tokens c) r in
    prim_along _ _ e (prim_args xs w.0 (comma_tokens c ++ r) (comma_stops c r st) (subst IsOpen e h))
prim_args (plain xs c e) w r st h = front_plain xs c e r st w.1 w.2 (prim_args xs w.0) h
prim_args (named xs c y g e) w r st h = front_named xs c y g e r w.1 (prim_args xs w.0) h

-- the place q with that primary behind it
pub record Grafted (q l : Expr) : Type 0 where
  pub tree : Expr
  pub same : spell tree ≡ spell q ++ spell l
  pub under : level tree ≡ 0
  pub fits : Fits tree
  pub no_type : has_short_type tree ≡ false

graft_dot : (q e : Expr) (d : Token) (x : Identifier) → Grafted q e → Grafted q (member e d x)
graft_dot q e d x g = record {
  tree = member g.tree d x;
  same = ap (λ z. z ++ dotted d x []) g.same ∙ append_assoc (spell q) (spell e) (dotted d x []);
  under = refl;
  fits = (g.under, g.fits, ap (λ b. b && is_none x.suffix) g.no_type);
  no_type = refl;
}

graft_index : (q f : Expr) (l : Token) (xs : Args) (c : Token) → Written xs → Grafted q f → Grafted q (index f l xs c)
graft_index q f l xs c w g = record {
  tree = index g.tree l xs c;
  same = ap (λ z. z ++ closing l xs c []) g.same ∙ append_assoc (spell q) (spell f) (closing l xs c []);
  under = refl;
  fits = (g.under, g.fits, w.0, w.1);
  no_type = refl;
}

graft : (q : Expr) → level q ≡ 0 → Fits q → (l : Expr) (r : List ReadToken) → level l ≡ 0 → Fits l → IsOpen (spell l ++ r) → Grafted q l
graft q lq fq (parenthesised l e c) r ll w h =
    record { tree = index q l (plain no_args None e) c; same = refl; under = refl; fits = (lq, fq, (tt, tt, w), refl); no_type = refl }
graft q lq fq (member e d x) r ll w h =
    graft_dot q e d x (graft q lq fq e (dotted d x r) w.0 w.1 (subst IsOpen (append_assoc (spell e) (dotted d x []) r) h))
graft q lq fq (index f l xs c) r ll w h =
    graft_index q f l xs c (w.2, w.3) (graft q lq fq f (closing l xs c [] ++ r) w.0 w.1 (subst IsOpen (append_assoc (spell f) (closing l xs c []) r) h))
graft q lq fq (binary a o t b) r ll w h = absurd (omega (arith, binary_positive o))
graft q lq fq (literal l) r ll w h = let f = sym (literal_part l.token l.value) ∙ h in absurd cc
graft q lq fq (unary u t e) r ll w h = absurd (closed_unary t u h)
graft q lq fq other r ll w h = absurd cc

pub record Longest (ts : List ReadToken) : Type 0 where
  pub tree : Expr
  pub rest : List ReadToken
  pub is : expression_at 1 ts ≡ Found tree rest

grafted_is : (q : Expr) (us : List ReadToken) (p : Prim us) → Grafted q p.tree → Longest (spell q ++ us)
grafted_is q us p g = record {
  tree = g.tree;
  rest = p.rest;
  is = again 1 (spell q ++ us) p.rest g.tree (record {
    same = ap (λ z. spell q ++ z) p.same ∙ (sym (append_assoc (spell q) (spell p.tree) p.rest) ∙ ap (λ z. z ++ p.rest) (sym g.same));
    under = omega (arith, g.under);
    fits = g.fits;
    stops = p.stops;
  });
}

plain_is : (q : Expr) (us : List ReadToken) → level q ≡ 0 → Fits q → Stops 1 us → Longest (spell q ++ us)
plain_is q us l w st = record { tree = q; rest = us; is = again 1 (spell q ++ us) us q (record { same = refl; under = omega (arith, l); fits = w; stops = st }) }

-- where no argument can begin, there are none
pub none_before : (t : ReadToken) (ts : List ReadToken) → after (want (argument call no_args None ∷ [])) t.token (part_of t) ≡ None
    → arguments_at (t ∷ ts) ≡ FoundArgs no_args (t ∷ ts)
none_before t ts h =
    ap (λ r. with_rest r.1 (finished_arguments (settled r.0))) (refused (want (argument call no_args None ∷ [])) t ts h)

-- so arguments that end a statement don't begin there
pub none_begin : (xs : Args) (u us : List ReadToken) (t : ReadToken) → Written xs → ends u ≡ true
    → after (want (argument call no_args None ∷ [])) t.token (part_of t) ≡ None → spell_args xs ++ u ≡ t ∷ us → ends (t ∷ us) ≡ true
none_begin xs u us t w v h e =
    let f : FoundArgs xs u ≡ FoundArgs no_args (t ∷ us) =
    sym (args_again (spell_args xs ++ u) u xs (record { same = refl; fits = w.0; written = w.1 }) (end_closes u v))
    ∙ (ap arguments_at e ∙ none_before t us h) in
    sym (ap ends (args_pair xs no_args u (t ∷ us) f).1) ∙ v

-- no arguments begin with a dot that goes on
pub no_dot : (xs : Args) (u us : List ReadToken) (t : ReadToken) → Written xs → ends u ≡ true → spell_args xs ++ u ≡ t ∷ us → part_of t ≡ part.Dot → ⊥
no_dot xs u us t w v e d =
    let h : ends (t ∷ us) ≡ true = none_begin xs u us t w v (ap (after (want (argument call no_args None ∷ [])) t.token) d) e in
    let f = sym (end_outside t us h) ∙ d in absurd cc

by_part : (q : Expr) (t : ReadToken) (ts : List ReadToken) (p : Part) → part_of t ≡ p → level q ≡ 0 → Fits q
    → (IsOpen (t ∷ ts) → Longest (spell q ++ t ∷ ts)) → (part_of t ≡ part.Dot → ⊥) → Longest (spell q ++ t ∷ ts)
by_part q t ts part.LeftParenthesis e l w h d = h e
by_part q t ts part.Dot e l w h d = absurd (d e)
by_part q t ts (part.Operator o) e l w h d =
    plain_is q (t ∷ ts) l w (subst (StopsAt 1) (sym e) (let le : 1 ≤ binary_level o = omega (arith, binary_positive o) in le))
by_part q t ts other e l w h d = plain_is q (t ∷ ts) l w (subst (StopsAt 1) (sym e) tt)

by_front : (q : Expr) (us : List ReadToken) → level q ≡ 0 → Fits q → (IsOpen us → Longest (spell q ++ us))
    → ((t : ReadToken) (ts : List ReadToken) → us ≡ t ∷ ts → part_of t ≡ part.Dot → ⊥) → Longest (spell q ++ us)
by_front q [] l w h d = plain_is q [] l w tt
by_front q (t ∷ ts) l w h d = by_part q t ts (part_of t) refl l w h (d t ts refl)

pub longest : (q : Expr) (xs : Args) (rest : List ReadToken) → level q ≡ 0 → Fits q → Written xs → ends rest ≡ true
    → Longest (spell q ++ (spell_args xs ++ rest))
longest q xs rest l w v e =
    by_front q (spell_args xs ++ rest) l w
    (λ h. let p = prim_args xs v.0 rest (end_stops 1 rest e) h in
    grafted_is q (spell_args xs ++ rest) p (graft q l w p.tree p.rest p.under p.fits p.open_))
    (λ t ts s d. no_dot xs rest ts t v e s d)
