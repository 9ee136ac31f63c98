-- An assignment or a call is read as the tree whose first part is longest.
use Rattle.std.proofs.Common.{◌≡◌, ℕ, ◌<◌, ◌≤◌, Bool, true, false, List, [], ◌∷◌, ◌++◌, length, Some, None, refl, sym, ap, ◌∙◌, subst, arith, append_assoc, inl, inr}
use Rattle.std.proofs.lemmas.Bool.{cond_both}
use Rattle.vba_lexer.specs.declared.token.Token.{Token}
use Rattle.vba_words.specs.declared.mark.Mark.TheVariants as mark
use Rattle.vba_words.specs.declared.reading.Reading.{Reading}
use Rattle.vba_words.specs.declared.reading.Reading.TheVariants as reading
use Rattle.vba_words.specs.declared.reading.ReadToken.{ReadToken}
use Rattle.vba_words.specs.Spelling.{read, marked}
use Rattle.vba_expression.specs.declared.operator.UnaryOperator.{UnaryOperator}
use Rattle.vba_expression.specs.declared.operator.UnaryOperator.TheVariants as unary_op
use Rattle.vba_expression.specs.declared.part.Part.{Part}
use Rattle.vba_expression.specs.declared.part.Part.TheVariants as part
use Rattle.vba_expression.specs.Tree.{Expr, literal, me, name, with_member, member, index, unary, binary, Args}
use Rattle.vba_expression.specs.Spelling.{spell, spell_args, unary_reading}
use Rattle.vba_expression.specs.Fitting.{level, Fits, is_place}
use Rattle.vba_expression.specs.Parts.{part_of}
use Rattle.vba_expression.specs.Reader.{expression_at, arguments_at}
use Rattle.vba_expression.specs.Taking.{Stops}
use Rattle.vba_expression.proofs.Reducing.{binary_positive, chosen_true, chosen_false}
use Rattle.vba_expression.proofs.Complete.{literal_part, level_small}
use Rattle.vba_expression.proofs.Inverses.{takes, again, one, one_spelled, Found, FoundArgs, args_takes, args_again, args_pair}
use Rattle.vba_tree.specs.Tree.{Simple, assignment, call}
use Rattle.vba_tree.specs.Spelling.{spell_simple}
use Rattle.vba_tree.specs.Forms.{Formed, is_target}
use Rattle.vba_tree.specs.Fitting.{IsLongest, first_part}
use Rattle.vba_grammar.specs.Front.{◌>>=◌, or_else, found_as, is_equal, whole_at, kept_place, place_at, ends, ending}
use Rattle.vba_grammar.specs.Front as front
use Rattle.vba_grammar.specs.Laws.{IsFoundBefore}
use Rattle.vba_grammar.specs.Places.{assigned_at, is_no_call, called_at, calls_at, behind_place, assignment_or_call_at}
use Rattle.vba_grammar.proofs.Calm.{end_stops, end_closes, Quiet, quiet, quiet_args, quiet_append, cut_same}
use Rattle.vba_grammar.proofs.Fronts.{place_level}
use Rattle.vba_grammar.proofs.Spine.{Written, dotted, closing, dotted_split, closing_split, head_is, tail_is, Same, On, begins, on_length}
use Rattle.vba_grammar.proofs.Graft.{longest, none_begin}

-- an assignment without Let, or a call
abbrev pub is_placed : Simple → Bool
is_placed (assignment None place equal e) = true
is_placed (call called arguments) = true
is_placed other = false

pub placed : (P : Simple → Type 0) → ((p : Expr) (g : Token) (e : Expr) → P (assignment None p g e)) → ((q : Expr) (xs : Args) → P (call q xs))
    → (s : Simple) → is_placed s ≡ true → P s
placed P a c (assignment None p g e) h = a p g e
placed P a c (call q xs) h = c q xs
placed P a c other h = absurd cc

-- the tree spells the tokens up to a rest, before which a statement ends
pub record Spells (ts : List ReadToken) (s : Simple) (rest : List ReadToken) : Type 0 where
  pub same : ts ≡ spell_simple s ++ rest
  pub kind : is_placed s ≡ true
  pub ok : Formed s
  pub over : ends rest ≡ true

abbrev pub Read : Type 0
Read = front.Found Simple

-- what a reading gives is spelled
abbrev pub Good : List ReadToken → Read → Type 0
Good ts None = Unit {0}
Good ts (Some sr) = Spells ts sr.0 sr.1

good_or : (ts : List ReadToken) (a b : Read) → Good ts a → Good ts b → Good ts (or_else a b)
good_or ts None b p q = q
good_or ts (Some sr) b p q = p

arguments_good : (ts r : List ReadToken) (q : Expr) (o : front.Found Args) → ts ≡ spell q ++ r → is_target q ≡ true → Fits q → is_no_call q ≡ false
    → arguments_at r ≡ o → Good ts (ending (found_as (call q) o))
arguments_good ts r q None e t w n h = tt
arguments_good ts r q (Some xr) e t w n h =
    let a = args_takes r xr.1 xr.0 h in
    cond_both (ends xr.1) (Some (call q xr.0, xr.1)) None (Good ts)
    (λ v. record {
      same = e ∙ ap (λ z. spell q ++ z) a.same ∙ sym (append_assoc (spell q) (spell_args xr.0) xr.1);
      kind = refl;
      ok = (t, w, (a.fits, a.written), n);
      over = v;
    })
    (λ v. tt)

called_good : (ts r : List ReadToken) (q : Expr) → ts ≡ spell q ++ r → is_target q ≡ true → Fits q → Good ts (called_at q r)
called_good ts r q e t w =
    cond_both (is_no_call q) None (ending (found_as (call q) (arguments_at r))) (Good ts) (λ n. tt)
    (λ n. arguments_good ts r q (arguments_at r) e t w n refl)

pub calls_good : (ts : List ReadToken) (p : Expr) (r : List ReadToken) → ts ≡ spell p ++ r → is_place p ≡ true → Fits p → Good ts (calls_at p r)
calls_good ts (name x) r e t w = called_good ts r (name x) e refl w
calls_good ts (me x) r e t w = called_good ts r (me x) e refl w
calls_good ts (with_member d x) r e t w = called_good ts r (with_member d x) e refl w
calls_good ts (member q d x) r e t w =
    good_or ts (called_at (member q d x) r) (calls_at q (dotted d x r)) (called_good ts r (member q d x) e t w)
    (calls_good ts q (dotted d x r) (e ∙ dotted_split q d x r) t w.1)
calls_good ts (index q l xs c) r e t w = calls_good ts q (closing l xs c r) (e ∙ closing_split q l xs c r) t w.1
calls_good ts other r e t w = tt

-- so is an assignment, whose first part is the whole place
abbrev GoodTo : List ReadToken → Expr → Read → Type 0
GoodTo ts p None = Unit {0}
GoodTo ts p (Some sr) = Spells ts sr.0 sr.1 × (first_part sr.0 ≡ spell p)

good_to : (ts : List ReadToken) (p : Expr) (o : Read) → GoodTo ts p o → Good ts o
good_to ts p None h = tt
good_to ts p (Some sr) h = h.0

pub equal_is : (t : ReadToken) → is_equal t.reading ≡ true → t ≡ marked t.token mark.Equal
equal_is t h = by_reading t.token t.reading h
  where
    by_reading : (token : Token) (k : Reading) → is_equal k ≡ true → read token k ≡ marked token mark.Equal
    by_reading token (reading.Mark mark.Equal) h = refl
    by_reading token other h = absurd cc

value_good : (ts us : List ReadToken) (p : Expr) (g : Token) (o : front.Found Expr) → ts ≡ spell p ++ marked g mark.Equal ∷ us → is_place p ≡ true
    → Fits p → whole_at us ≡ o → GoodTo ts p (ending (found_as (assignment None p g) o))
value_good ts us p g None e t w h = tt
value_good ts us p g (Some er) e t w h =
    let a = takes 15 us er.1 er.0 (omega arith) h in
    cond_both (ends er.1) (Some (assignment None p g er.0, er.1)) None (GoodTo ts p)
    (λ v. (
      record {
        same = e ∙ ap (λ z. spell p ++ marked g mark.Equal ∷ z) a.same ∙ sym (append_assoc (spell p) (marked g mark.Equal ∷ spell er.0) er.1);
        kind = refl;
        ok = ((t, w), a.fits);
        over = v;
      },
      refl,
    ))
    (λ v. tt)

assign_good : (ts : List ReadToken) (p : Expr) (r : List ReadToken) → ts ≡ spell p ++ r → is_place p ≡ true → Fits p → GoodTo ts p (assigned_at None p r)
assign_good ts p [] e t w = tt
assign_good ts p (u ∷ us) e t w =
    cond_both (is_equal u.reading) (Some (u.token, us)) None
    (λ z. GoodTo ts p (ending (z >>= λ equal rest. found_as (assignment None p equal) (whole_at rest))))
    (λ q. value_good ts us p u.token (whole_at us) (e ∙ ap (λ z. spell p ++ z ∷ us) (equal_is u q)) t w refl)
    (λ q. tt)

place_good : (ts : List ReadToken) (o : front.Found Expr) → expression_at 1 ts ≡ o → Good ts (o >>= kept_place >>= behind_place)
place_good ts None h = tt
place_good ts (Some pr) h =
    let a = takes 1 ts pr.1 pr.0 (omega arith) h in
    cond_both (is_place pr.0) (Some pr) None (λ z. Good ts (z >>= behind_place))
    (λ t. good_or ts (assigned_at None pr.0 pr.1) (calls_at pr.0 pr.1) (good_to ts pr.0 _ (assign_good ts pr.0 pr.1 a.same t a.fits))
    (calls_good ts pr.0 pr.1 a.same t a.fits))
    (λ t. tt)

-- what is read is spelled
pub placed_good : (ts : List ReadToken) → Good ts (assignment_or_call_at ts)
placed_good ts = place_good ts (expression_at 1 ts) refl

-- something is read whose first part is at least so long
abbrev pub Beats : ℕ → Read → Type 0
Beats n None = ⊥
Beats n (Some sr) = n ≤ length (first_part sr.0)

found_or : (q : Expr) (o : front.Found Args) (b : Read) (n : ℕ) → n ≤ length (spell q) → (ending (found_as (call q) o) ≡ None → Beats n b)
    → Beats n (or_else (ending (found_as (call q) o)) b)
found_or q None b n l h = h refl
found_or q (Some xr) b n l h =
    cond_both (ends xr.1) (Some (call q xr.0, xr.1)) None (λ z. (z ≡ None → Beats n b) → Beats n (or_else z b)) (λ v g. l) (λ v g. g refl) h

called_or : (q : Expr) (r : List ReadToken) (b : Read) (n : ℕ) → n ≤ length (spell q) → (called_at q r ≡ None → Beats n b)
    → Beats n (or_else (called_at q r) b)
called_or q r b n l h =
    cond_both (is_no_call q) None (ending (found_as (call q) (arguments_at r))) (λ z. (z ≡ None → Beats n b) → Beats n (or_else z b))
    (λ v g. g refl) (λ v g. found_or q (arguments_at r) b n l g) h

called_is : (q : Expr) (r : List ReadToken) (xs : Args) (rest : List ReadToken) → is_no_call q ≡ false → arguments_at r ≡ FoundArgs xs rest
    → ends rest ≡ true → called_at q r ≡ Some (call q xs, rest)
called_is q r xs rest n h v =
    chosen_false (is_no_call q) None (ending (found_as (call q) (arguments_at r))) n
    ∙ (ap (λ o. ending (found_as (call q) o)) h ∙ chosen_true (ends rest) _ _ v)

called_beats : (q : Expr) (s : List ReadToken) (p : Expr) (r : List ReadToken) (xs : Args) (rest : List ReadToken) → Same q s p r
    → is_no_call q ≡ false → arguments_at s ≡ FoundArgs xs rest → ends rest ≡ true → Beats (length (spell q)) (called_at p r)
called_beats q s p r xs rest h n a v =
    let b : arguments_at r ≡ FoundArgs xs rest = ap arguments_at (sym h.rest) ∙ a in
    let m : is_no_call p ≡ false = ap is_no_call (sym h.tree) ∙ n in
    let le : length (spell q) ≤ length (spell p) = (let e = ap (λ z. length (spell z)) h.tree in omega arith) in
    subst (Beats (length (spell q))) (sym (called_is p r xs rest m b v)) le

not_target : (q p : Expr) → q ≡ p → is_target q ≡ true → is_target p ≡ false → ⊥
not_target q p e t f = let g = sym f ∙ (ap is_target (sym e) ∙ t) in absurd cc

calls_beats : (q : Expr) (s : List ReadToken) (p : Expr) (r : List ReadToken) (xs : Args) (rest : List ReadToken) → On q s p r → is_target q ≡ true
    → is_no_call q ≡ false → arguments_at s ≡ FoundArgs xs rest → ends rest ≡ true → Beats (length (spell q)) (calls_at p r)
calls_beats q s (name x) r xs rest h t n a v = called_beats q s (name x) r xs rest h n a v
calls_beats q s (me x) r xs rest h t n a v = called_beats q s (me x) r xs rest h n a v
calls_beats q s (with_member d x) r xs rest h t n a v = called_beats q s (with_member d x) r xs rest h n a v
calls_beats q s (member p d x) r xs rest (inl h) t n a v =
    let b : arguments_at r ≡ FoundArgs xs rest = ap arguments_at (sym h.rest) ∙ a in
    let m : is_no_call (member p d x) ≡ false = ap is_no_call (sym h.tree) ∙ n in
    called_or (member p d x) r _ _ (on_length q s (member p d x) r (inl h))
    (λ none. absurd (let e = sym none ∙ called_is (member p d x) r xs rest m b v in cc))
calls_beats q s (member p d x) r xs rest (inr o) t n a v =
    called_or (member p d x) r _ _ (on_length q s (member p d x) r (inr o)) (λ none. calls_beats q s p (dotted d x r) xs rest o t n a v)
calls_beats q s (index p l ys c) r xs rest (inl h) t n a v = absurd (not_target q (index p l ys c) h.tree t refl)
calls_beats q s (index p l ys c) r xs rest (inr o) t n a v = calls_beats q s p (closing l ys c r) xs rest o t n a v
calls_beats q s other r xs rest h t n a v = absurd (not_target q other h.tree t refl)

under_one : (p : Expr) → is_place p ≡ true → level p < 1
under_one p h = omega (arith, place_level p h)

pub target_place : (q : Expr) → is_target q ≡ true → is_place q ≡ true
target_place (name x) h = refl
target_place (me x) h = refl
target_place (with_member d x) h = refl
target_place (member e d x) h = h
target_place other h = absurd cc

pub equal_stops : (g : Token) (us : List ReadToken) → Stops 1 (marked g mark.Equal ∷ us)
equal_stops g us = omega arith

-- the whole place, where an assignment stands
pub place_there : (p : Expr) (r : List ReadToken) → is_place p ≡ true → Fits p → Stops 1 r → place_at (spell p ++ r) ≡ Found p r
place_there p r h w st =
    ap (λ o. o >>= kept_place) (again 1 (spell p ++ r) r p (record { same = refl; under = under_one p h; fits = w; stops = st }))
    ∙ chosen_true (is_place p) _ _ h

-- an assignment is read wherever one is spelled
pub assign_read : (p : Expr) (g : Token) (e : Expr) (rest : List ReadToken) → Formed (assignment None p g e) → ends rest ≡ true
    → assignment_or_call_at (spell_simple (assignment None p g e) ++ rest) ≡ Some (assignment None p g e, rest)
assign_read p g e rest w v =
    let us : List ReadToken = spell e ++ rest in
    let b : whole_at us ≡ Found e rest = again 15 us rest e (record { same = refl; under = level_small e; fits = w.1; stops = end_stops 15 rest v }) in
    ap assignment_or_call_at (append_assoc (spell p) (marked g mark.Equal ∷ spell e) rest)
    ∙ (ap (λ o. o >>= behind_place) (place_there p (marked g mark.Equal ∷ us) w.0.0 w.0.1 (equal_stops g us))
    ∙ (ap (λ o. or_else (ending (found_as (assignment None p g) o)) (calls_at p (marked g mark.Equal ∷ us))) b
    ∙ ap (λ o. or_else o (calls_at p (marked g mark.Equal ∷ us))) (chosen_true (ends rest) _ _ v)))

-- a place begins with Me, a name or the dot of a With block
abbrev pub is_head_part : Part → Bool
is_head_part part.Me = true
is_head_part (part.Name x) = true
is_head_part part.WithDot = true
is_head_part other = false

abbrev pub HeadFirst : List ReadToken → Type 0
HeadFirst [] = ⊥
HeadFirst (t ∷ ts) = is_head_part (part_of t) ≡ true

pub head_first : (q : Expr) (s : List ReadToken) → is_place q ≡ true → HeadFirst (spell q ++ s)
head_first (member e d x) s h = subst HeadFirst (sym (dotted_split e d x s)) (head_first e (dotted d x s) h)
head_first (index f l xs c) s h = subst HeadFirst (sym (closing_split f l xs c s)) (head_first f (closing l xs c s) h)
head_first (me x) s h = refl
head_first (name x) s h = refl
head_first (with_member d x) s h = refl
head_first other s h = absurd cc

unary_no_head : (t : Token) (u : UnaryOperator) → is_head_part (part_of (read t (unary_reading u))) ≡ true → ⊥
unary_no_head t unary_op.Minus h = absurd cc
unary_no_head t unary_op.Not h = absurd cc

headed_place : (p : Expr) (s : List ReadToken) → level p < 1 → Fits p → HeadFirst (spell p ++ s) → is_place p ≡ true
headed_place (name x) s l w h = refl
headed_place (me x) s l w h = refl
headed_place (with_member d x) s l w h = refl
headed_place (member e d x) s l w h = headed_place e (dotted d x s) (omega (arith, w.0)) w.1 (subst HeadFirst (dotted_split e d x s) h)
headed_place (index f b xs c) s l w h = headed_place f (closing b xs c s) (omega (arith, w.0)) w.1 (subst HeadFirst (closing_split f b xs c s) h)
headed_place (literal v) s l w h = let e = sym (ap is_head_part (literal_part v.token v.value)) ∙ h in absurd cc
headed_place (unary u t e) s l w h = absurd (unary_no_head t u h)
headed_place (binary a o t b) s l w h = absurd (omega (arith, binary_positive o))
headed_place other s l w h = absurd cc

or_beats : (n : ℕ) (ts : List ReadToken) (p : Expr) (a b : Read) → n ≤ length (spell p) → GoodTo ts p a → Beats n b → Beats n (or_else a b)
or_beats n ts p None b l g h = h
or_beats n ts p (Some sr) b l g h = let e = ap (λ z. length z) g.1 in omega arith

-- where a call is spelled, something is read whose first part is at least so long
call_beats : (ts : List ReadToken) (q : Expr) (xs : Args) (rest : List ReadToken) (p : Expr) (r : List ReadToken) → ts ≡ spell q ++ (spell_args xs ++ rest)
    → Formed (call q xs) → ends rest ≡ true → expression_at 1 ts ≡ Found p r → Beats (length (spell q)) (assignment_or_call_at ts)
call_beats ts q xs rest p r e f o h =
    let a = takes 1 ts r p (omega arith) h in
    let us : List ReadToken = spell_args xs ++ rest in
    let w : is_place q ≡ true = target_place q f.0 in
    let v : is_place p ≡ true = headed_place p r a.under a.fits (subst HeadFirst (sym e ∙ a.same) (head_first q us w)) in
    let on : On q us p r = begins p q r us a.stops v w a.fits f.1 (sym a.same ∙ e) in
    let g : arguments_at us ≡ FoundArgs xs rest =
    args_again us rest xs (record { same = refl; fits = f.2.0; written = f.2.1 }) (end_closes rest o) in
    let c : Beats (length (spell q)) (calls_at p r) = calls_beats q us p r xs rest on f.0 f.3 g o in
    subst (Beats (length (spell q)))
    (sym (ap (λ z. z >>= kept_place >>= behind_place) h ∙ ap (λ z. z >>= behind_place) (chosen_true (is_place p) _ _ v)))
    (or_beats _ ts p (assigned_at None p r) (calls_at p r) (on_length q us p r on) (assign_good ts p r a.same v a.fits) c)

-- wherever a statement is spelled, something is read whose first part is at least so long
pub spelled_beats : (s : Simple) (rest : List ReadToken) → is_placed s ≡ true → Formed s → ends rest ≡ true
    → Beats (length (first_part s)) (assignment_or_call_at (spell_simple s ++ rest))
spelled_beats s rest k = placed (λ z. Formed z → ends rest ≡ true → Beats (length (first_part z)) (assignment_or_call_at (spell_simple z ++ rest)))
    (λ p g e w v. subst (Beats (length (spell p))) (sym (assign_read p g e rest w v)) (omega arith))
    (λ q xs w v.
    let e = append_assoc (spell q) (spell_args xs) rest in
    let l = longest q xs rest (place_level q (target_place q w.0)) w.1 w.2 v in
    call_beats (spell_simple (call q xs) ++ rest) q xs rest l.tree l.rest e w v (ap (expression_at 1) e ∙ l.is))
    s k

split : (a b c d : List ReadToken) → length a ≡ length b → a ++ c ≡ b ++ d → (a ≡ b) × (c ≡ d)
split [] [] c d l e = (refl, e)
split [] (y ∷ b) c d l e = absurd (omega arith)
split (x ∷ a) [] c d l e = absurd (omega arith)
split (x ∷ a) (y ∷ b) c d l e =
    let p = split a b c d (omega arith) (tail_is x y (a ++ c) (b ++ d) e) in
    (ap (λ z. z ∷ a) (head_is x y (a ++ c) (b ++ d) e) ∙ ap (λ z. y ∷ z) p.0, p.1)

no_args_equal : (xs : Args) (u us : List ReadToken) (g : Token) → Written xs → ends u ≡ true → spell_args xs ++ u ≡ marked g mark.Equal ∷ us → ⊥
no_args_equal xs u us g w v e = let f : ends (marked g mark.Equal ∷ us) ≡ true = none_begin xs u us (marked g mark.Equal) w v refl e in absurd cc

-- a statement is known by the length of its first part
assignments_same : (p q : Expr) (g h : Token) (e f : Expr) (r u : List ReadToken) → Formed (assignment None p g e) → Formed (assignment None q h f)
    → ends r ≡ true → ends u ≡ true → spell p ≡ spell q → marked g mark.Equal ∷ (spell e ++ r) ≡ marked h mark.Equal ∷ (spell f ++ u)
    → (assignment None p g e ≡ assignment None q h f) × (r ≡ u)
assignments_same p q g h e f r u w v a b c k =
    let m = one 15 (spell e ++ r) r u e f (record { same = refl; under = level_small e; fits = w.1; stops = end_stops 15 r a })
    (record { same = tail_is _ _ (spell e ++ r) (spell f ++ u) k; under = level_small f; fits = v.1; stops = end_stops 15 u b }) in
    let t : g ≡ h = ap (λ z. z.token) (head_is _ _ (spell e ++ r) (spell f ++ u) k) in
    (ap (λ z. assignment None z g e) (one_spelled p q w.0.1 v.0.1 c) ∙ (ap (λ z. assignment None q z e) t ∙ ap (assignment None q h) m.0), m.1)

calls_same : (p q : Expr) (xs ys : Args) (r u : List ReadToken) → Formed (call p xs) → Formed (call q ys)
    → ends r ≡ true → ends u ≡ true → spell p ≡ spell q → spell_args xs ++ r ≡ spell_args ys ++ u → (call p xs ≡ call q ys) × (r ≡ u)
calls_same p q xs ys r u w v a b c k =
    let m = args_pair xs ys r u
    (sym (args_again (spell_args xs ++ r) r xs (record { same = refl; fits = w.2.0; written = w.2.1 }) (end_closes r a))
    ∙ args_again (spell_args xs ++ r) u ys (record { same = k; fits = v.2.0; written = v.2.1 }) (end_closes u b)) in
    (ap (λ z. call z xs) (one_spelled p q w.1 v.1 c) ∙ ap (call q) m.0, m.1)

abbrev Alike : Simple → List ReadToken → Simple → List ReadToken → Type 0
Alike s r t u = Formed s → Formed t → ends r ≡ true → ends u ≡ true → spell_simple s ++ r ≡ spell_simple t ++ u
    → length (first_part s) ≡ length (first_part t) → (s ≡ t) × (r ≡ u)

pub same_part : (s t : Simple) (r u : List ReadToken) → is_placed s ≡ true → is_placed t ≡ true → Alike s r t u
same_part s t r u j k = placed (λ y. Alike y r t u)
    (λ p g e. placed (λ z. Alike (assignment None p g e) r z u)
    (λ q h f w v a b c l.
    let m = split (spell p) (spell q) (marked g mark.Equal ∷ (spell e ++ r)) (marked h mark.Equal ∷ (spell f ++ u)) l
    (sym (append_assoc (spell p) (marked g mark.Equal ∷ spell e) r) ∙ (c ∙ append_assoc (spell q) (marked h mark.Equal ∷ spell f) u)) in
    assignments_same p q g h e f r u w v a b m.0 m.1)
    (λ q ys w v a b c l.
    let m = split (spell p) (spell q) (marked g mark.Equal ∷ (spell e ++ r)) (spell_args ys ++ u) l
    (sym (append_assoc (spell p) (marked g mark.Equal ∷ spell e) r) ∙ (c ∙ append_assoc (spell q) (spell_args ys) u)) in
    absurd (no_args_equal ys u (spell e ++ r) g v.2 b (sym m.1))) t k)
    (λ p xs. placed (λ z. Alike (call p xs) r z u)
    (λ q h f w v a b c l.
    let m = split (spell p) (spell q) (spell_args xs ++ r) (marked h mark.Equal ∷ (spell f ++ u)) l
    (sym (append_assoc (spell p) (spell_args xs) r) ∙ (c ∙ append_assoc (spell q) (marked h mark.Equal ∷ spell f) u)) in
    absurd (no_args_equal xs r (spell f ++ u) h w.2 a m.1))
    (λ q ys w v a b c l.
    let m = split (spell p) (spell q) (spell_args xs ++ r) (spell_args ys ++ u) l
    (sym (append_assoc (spell p) (spell_args xs) r) ∙ (c ∙ append_assoc (spell q) (spell_args ys) u)) in
    calls_same p q xs ys r u w v a b m.0 m.1) t k)
    s j

pub quiet_placed : (s : Simple) → is_placed s ≡ true → Quiet (spell_simple s)
quiet_placed = placed (λ s. Quiet (spell_simple s))
    (λ p g e. quiet_append (spell p) _ (quiet p) (refl, quiet e))
    (λ q xs. quiet_append (spell q) _ (quiet q) (quiet_args xs))

pub placed_first : (s : Simple) (rest : List ReadToken) → is_placed s ≡ true → Formed s → HeadFirst (spell_simple s ++ rest)
placed_first s rest k = placed (λ z. Formed z → HeadFirst (spell_simple z ++ rest))
    (λ p g e w. subst HeadFirst (sym (append_assoc (spell p) (marked g mark.Equal ∷ spell e) rest)) (head_first p _ w.0.0))
    (λ q xs w. subst HeadFirst (sym (append_assoc (spell q) (spell_args xs) rest)) (head_first q _ (target_place q w.0)))
    s k

-- none with the same tokens has a longer first part than what is read
beaten : (s y : Simple) (rest : List ReadToken) → HeadFirst (spell_simple s ++ rest) → ends rest ≡ true
    → assignment_or_call_at (spell_simple s ++ rest) ≡ Some (s, rest) → Formed y → spell_simple y ≡ spell_simple s → length (first_part y) ≤ length (first_part s)
beaten s (assignment (Some l) p g e) rest h v r w k =
    let f : HeadFirst (spell_simple (assignment (Some l) p g e) ++ rest) = subst (λ z. HeadFirst (z ++ rest)) (sym k) h in absurd cc
beaten s (assignment None p g e) rest h v r w k =
    subst (Beats (length (spell p))) (ap (λ z. assignment_or_call_at (z ++ rest)) k ∙ r) (spelled_beats (assignment None p g e) rest refl w v)
beaten s (call q xs) rest h v r w k =
    subst (Beats (length (spell q))) (ap (λ z. assignment_or_call_at (z ++ rest)) k ∙ r) (spelled_beats (call q xs) rest refl w v)
beaten s other rest h v r w k = omega arith

-- what is read is spelled, and its first part is as long as it can be
pub placed_sound : (ts rest : List ReadToken) (s : Simple) → assignment_or_call_at ts ≡ Some (s, rest)
    → Spells ts s rest × IsLongest Formed spell_simple first_part s
placed_sound ts rest s h =
    let g : Spells ts s rest = subst (Good ts) h (placed_good ts) in
    (g, λ y w k. beaten s y rest (placed_first s rest g.kind g.ok) g.over (ap assignment_or_call_at (sym g.same) ∙ h) w k)

-- something is read that ends at the same place
abbrev SameEnd : List ReadToken → Simple → List ReadToken → Read → Type 0
SameEnd ts s rest None = ⊥
SameEnd ts s rest (Some tu) = Spells ts tu.0 tu.1 × (spell_simple tu.0 ≡ spell_simple s) × (tu.1 ≡ rest) × (length (first_part s) ≤ length (first_part tu.0))

same_end : (s : Simple) (rest : List ReadToken) (o : Read) → is_placed s ≡ true → ends rest ≡ true → Good (spell_simple s ++ rest) o
    → Beats (length (first_part s)) o → SameEnd (spell_simple s ++ rest) s rest o
same_end s rest None k v g b = b
same_end s rest (Some tu) k v g b =
    let c = cut_same (spell_simple s) (spell_simple tu.0) rest tu.1 (quiet_placed s k) (quiet_placed tu.0 g.kind) v g.over g.same in
    (g, sym c.0, sym c.1, b)

spelled_end : (s : Simple) (rest : List ReadToken) → is_placed s ≡ true → Formed s → ends rest ≡ true
    → SameEnd (spell_simple s ++ rest) s rest (assignment_or_call_at (spell_simple s ++ rest))
spelled_end s rest k w v =
    same_end s rest (assignment_or_call_at (spell_simple s ++ rest)) k v (placed_good (spell_simple s ++ rest)) (spelled_beats s rest k w v)

pub placed_found : (s : Simple) (rest : List ReadToken) → is_placed s ≡ true → Formed s → ends rest ≡ true
    → IsFoundBefore rest (assignment_or_call_at (spell_simple s ++ rest))
placed_found s rest k w v = before (assignment_or_call_at (spell_simple s ++ rest)) (spelled_end s rest k w v)
  where
    before : (o : Read) → SameEnd (spell_simple s ++ rest) s rest o → IsFoundBefore rest o
    before None h = h
    before (Some tu) h = h.2

longest_is : (s : Simple) (rest : List ReadToken) (o : Read) → is_placed s ≡ true → Formed s → ends rest ≡ true
    → IsLongest Formed spell_simple first_part s → SameEnd (spell_simple s ++ rest) s rest o → o ≡ Some (s, rest)
longest_is s rest None k w v l h = absurd h
longest_is s rest (Some tu) k w v l h =
    let g = h.0 in
    let le = l tu.0 g.ok h.1 in
    let p = same_part tu.0 s tu.1 rest g.kind k g.ok w g.over v (sym g.same) (omega (arith, h.3)) in
    ap (λ z. Some (z, tu.1)) p.0 ∙ ap (λ z. Some (s, z)) p.1

-- the tree whose first part is longest is read
pub placed_complete : (s : Simple) (rest : List ReadToken) → is_placed s ≡ true → Formed s → ends rest ≡ true → IsLongest Formed spell_simple first_part s
    → assignment_or_call_at (spell_simple s ++ rest) ≡ Some (s, rest)
placed_complete s rest k w v l = longest_is s rest (assignment_or_call_at (spell_simple s ++ rest)) k w v l (spelled_end s rest k w v)
