-- A place and what is behind it: a value that is assigned, or the arguments of a call.
use Rattle.std.proofs.Common.{◌≡◌, ℕ, suc, ◌+◌, ◌-◌, ◌<◌, ◌≤◌, Bool, true, false, List, [], ◌∷◌, ◌++◌, length, take, drop, Option, Some, None, refl, sym, ap, subst, ◌∙◌, append_assoc, append-nil, length-append, take_at, drop_at, arith}
use Rattle.std.specs.Prelude.{if◌then◌else◌, option_map}
use Rattle.std.proofs.lemmas.List.{length-drop}
use Rattle.vba_lexer.specs.declared.token.Token.{Token}
use Rattle.vba_words.specs.declared.identifier.Identifier.{Identifier}
use Rattle.vba_words.specs.declared.mark.Mark.TheVariants as mark
use Rattle.vba_words.specs.declared.reading.ReadToken.{ReadToken}
use Rattle.vba_words.specs.Spelling.{marked, naming}
use Rattle.vba_expression.specs.Tree.{Expr, literal, me, name, with_member, member, index, parenthesised, new, type_of, unary, binary, Args}
use Rattle.vba_expression.specs.Fitting.{is_place, level, Fits}
use Rattle.vba_expression.specs.Spelling.{spell, spell_args}
use Rattle.vba_expression.specs.Reader.{expression_at, arguments_at}
use Rattle.vba_expression.proofs.Inverses.{takes, again}
use Rattle.vba_expression.proofs.Reducing.{chosen_true}
use Rattle.vba_tree.specs.Tree.{Simple, assignment, call}
use Rattle.vba_grammar.specs.Front.{Found, ◌>>=◌, or_else, found_as, is_equal, token_at, whole_at, kept_place, place_at, ends, ending}
use Rattle.vba_grammar.specs.Places.{assigned_at, is_no_call, called_at, calls_at, behind_place, assignment_or_call_at}
use Rattle.vba_grammar.proofs.Binding.{found_pair, same_found}
use Rattle.vba_statements.specs.declared.call.Start.{Start}
use Rattle.vba_statements.specs.Calls.{equal_value, equal_value_at, starts, with_target, call_by, call_unless, place_calls}
use Rattle.vba_statements.proofs.Starts.{inner_args}

abbrev some_rest : List ReadToken → Option (List ReadToken)
some_rest rest = Some rest

-- what is found, where a test holds
abbrev kept_if : {A : Type 0} → Bool → A → List ReadToken → Found A
kept_if b a rest = if b then Some (a, rest) else None

-- an assignment by its value
abbrev pub assigned : Option Token → Expr → Token × Expr → Simple
assigned let_word place value = assignment let_word place value.0 value.1

pub assigned_by_value : (let_word : Option Token) (place : Expr) (ts : List ReadToken)
    → assigned_at let_word place ts ≡ found_as (assigned let_word place) (equal_value_at ts)
assigned_by_value let_word place ts = at (token_at is_equal ts)
  where
    last : (equal : Token) (e : Expr) (rest : List ReadToken) (b : Bool)
        → kept_if b (assignment let_word place equal e) rest ≡ found_as (assigned let_word place) (kept_if b (equal_value equal e) rest)
    last equal e rest true = refl
    last equal e rest false = refl

    value : (equal : Token) (o : Found Expr)
        → ending (found_as (assignment let_word place equal) o) ≡ found_as (assigned let_word place) (ending (found_as (equal_value equal) o))
    value equal None = refl
    value equal (Some found) = last equal found.0 found.1 (ends found.1)

    at : (o : Found Token)
        → ending (o >>= λ equal rest. found_as (assignment let_word place equal) (whole_at rest))
        ≡ found_as (assigned let_word place) (ending (o >>= λ equal rest. found_as (equal_value equal) (whole_at rest)))
    at None = refl
    at (Some found) = value found.0 (whole_at found.1)

-- a place is the tokens up to the rest, and fits
pub place_kept : (ts rest : List ReadToken) (p : Expr) → found_pair p rest ≡ place_at ts
    → (ts ≡ spell p ++ rest) × (is_place p ≡ true) × Fits p
place_kept ts rest p h = at (expression_at 1 ts) refl h
  where
    kept : (found : Expr × List ReadToken) (b : Bool) → is_place found.0 ≡ b → expression_at 1 ts ≡ Some found
        → found_pair p rest ≡ kept_if b found.0 found.1 → (ts ≡ spell p ++ rest) × (is_place p ≡ true) × Fits p
    kept found true placed e h =
        let same = same_found p found.0 rest found.1 h in
        let taken = takes 1 ts found.1 found.0 (omega arith) e in (
          taken.same ∙ ap (λ q. spell q ++ found.1) (sym same.0) ∙ ap (λ us. spell p ++ us) (sym same.1),
          ap is_place same.0 ∙ placed,
          subst Fits (sym same.0) taken.fits,
        )
    kept found false placed e h = absurd cc

    at : (o : Found Expr) → expression_at 1 ts ≡ o → found_pair p rest ≡ (o >>= kept_place)
        → (ts ≡ spell p ++ rest) × (is_place p ≡ true) × Fits p
    at None e h = absurd cc
    at (Some found) e h = kept found (is_place found.0) refl e h

-- the place ends before this index
pub place_ends : (ts rest : List ReadToken) (p : Expr) → found_pair p rest ≡ place_at ts
    → (option_map (λ f. f.1) (place_at ts) ≡ Some (drop (length ts - length rest) ts)) × (length rest ≤ length ts)
place_ends ts rest p h =
    let front : ts ≡ spell p ++ rest = (place_kept ts rest p h).0 in
    let long : length ts ≡ length (spell p) + length rest = ap length front ∙ length-append (spell p) rest in
    let n : length (spell p) ≡ length ts - length rest = omega arith in
    let left : drop (length ts - length rest) ts ≡ rest =
    ap (drop (length ts - length rest)) front ∙ drop_at (spell p) rest (length ts - length rest) n in
    (ap (option_map (λ f. f.1)) (sym h) ∙ ap some_rest (sym left), omega arith)

-- where no value is assigned to the place at the front, something is called
pub not_assigned : (ts rest : List ReadToken) (p : Expr) → found_pair p rest ≡ place_at ts → None ≡ equal_value_at rest
    → place_calls ts ≡ assignment_or_call_at ts
not_assigned ts rest p h none =
    ap (λ o. o >>= calls_at) (sym h)
    ∙ sym (ap (λ o. or_else o (calls_at p rest)) (assigned_by_value None p rest ∙ ap (found_as (assigned None p)) (sym none)))
    ∙ ap (λ o. o >>= behind_place) h

-- where the last parts of a place begin, before so many tokens
abbrev outer : Expr → List ReadToken → List Start
outer (member base dot x) us =
    outer base (marked dot mark.Dot ∷ naming x ∷ us) ++ record { left = suc (suc (length us)); is_bracket = false } ∷ []
outer (index base left xs right) us =
    let more = spell_args xs ++ marked right mark.RightParenthesis ∷ us in
    outer base (marked left mark.LeftParenthesis ∷ more) ++ record { left = suc (length more); is_bracket = true } ∷ []
outer other us = []

outer_starts : (p : Expr) (us : List ReadToken) → is_place p ≡ true → starts 0 (spell p ++ us) ≡ outer p us ++ starts 0 us
outer_starts (me t) us h = refl
outer_starts (name x) us h = refl
outer_starts (with_member d x) us h = refl
outer_starts (member base d x) us h =
    let last : Start = record { left = suc (suc (length us)); is_bracket = false } in
    ap (starts 0) (append_assoc (spell base) (marked d mark.Dot ∷ naming x ∷ []) us)
    ∙ outer_starts base (marked d mark.Dot ∷ naming x ∷ us) h
    ∙ sym (append_assoc (outer base (marked d mark.Dot ∷ naming x ∷ us)) (last ∷ []) (starts 0 us))
outer_starts (index base l xs r) us h =
    let more : List ReadToken = spell_args xs ++ marked r mark.RightParenthesis ∷ us in
    let last : Start = record { left = suc (length more); is_bracket = true } in
    let inside : starts 1 more ≡ starts 0 us = inner_args xs 0 (marked r mark.RightParenthesis ∷ us) in
    ap (starts 0) (append_assoc (spell base) _ us)
    ∙ ap (λ zs. starts 0 (spell base ++ marked l mark.LeftParenthesis ∷ zs)) (append_assoc (spell_args xs) (marked r mark.RightParenthesis ∷ []) us)
    ∙ outer_starts base (marked l mark.LeftParenthesis ∷ more) h
    ∙ ap (λ zs. outer base (marked l mark.LeftParenthesis ∷ more) ++ last ∷ zs) inside
    ∙ sym (append_assoc (outer base (marked l mark.LeftParenthesis ∷ more)) (last ∷ []) (starts 0 us))
outer_starts (literal l) us h = absurd cc
outer_starts (parenthesised l e r) us h = absurd cc
outer_starts (new t class) us h = absurd cc
outer_starts (type_of t e i class) us h = absurd cc
outer_starts (unary u t e) us h = absurd cc
outer_starts (binary a o t b) us h = absurd cc

-- two lists with one more each
one_less : (xs ys : List Start) (x y : Start) → xs ++ x ∷ [] ≡ ys ++ y ∷ [] → (xs ≡ ys) × (x ≡ y)
one_less [] [] x y h = (refl, cc)
one_less [] (b ∷ ys) x y h = let long : length (x ∷ []) ≡ length (b ∷ (ys ++ y ∷ [])) = ap length h in absurd (omega (arith, long, length-append ys (y ∷ [])))
one_less (a ∷ xs) [] x y h = let long : length (a ∷ (xs ++ x ∷ [])) ≡ length (y ∷ []) = ap length h in absurd (omega (arith, long, length-append xs (x ∷ [])))
one_less (a ∷ xs) (b ∷ ys) x y h =
    let head : a ≡ b = cc in
    let tail : xs ++ x ∷ [] ≡ ys ++ y ∷ [] = cc in
    let more = one_less xs ys x y tail in
    (ap (λ c. c ∷ xs) head ∙ ap (λ zs. b ∷ zs) more.0, more.1)

abbrev no_parts : List Start
no_parts = []

none_left : (xs : List Start) (x : Start) → [] ≡ xs ++ x ∷ [] → ⊥
none_left xs x h = let long : length no_parts ≡ length (xs ++ x ∷ []) = ap length h in absurd (omega (arith, long, length-append xs (x ∷ [])))

-- a call that ends as the statement does
called_as : (q : Expr) (o : Found Args) → (ending o >>= λ arguments rest. Some (call q arguments, rest)) ≡ ending (found_as (call q) o)
called_as q None = refl
called_as q (Some found) = at (ends found.1)
  where
    at : (b : Bool) → (kept_if b found.0 found.1 >>= λ arguments rest. Some (call q arguments, rest)) ≡ kept_if b (call q found.0) found.1
    at true = refl
    at false = refl

under_one : (p : Expr) → is_place p ≡ true → level p < 1
under_one (me t) h = omega arith
under_one (name x) h = omega arith
under_one (with_member d x) h = omega arith
under_one (member base d x) h = omega arith
under_one (index base l xs r) h = omega arith
under_one other h = absurd cc

call_is : (q : Expr) (ts : List ReadToken) → is_place q ≡ true → Fits q → call_by (spell q) ts ≡ called_at q ts
call_is q ts h w =
    let whole : spell q ++ [] ≡ spell q = append-nil (spell q) in
    let read : place_at (spell q) ≡ found_pair q [] =
    ap place_at (sym whole) ∙ (ap (λ o. o >>= kept_place) (again 1 (spell q ++ []) [] q (record { same = refl; under = under_one q h; fits = w; stops = tt }))
    ∙ chosen_true (is_place q) _ _ h) in
    ap (λ o. if is_no_call q then None else (ending (arguments_at ts) >>= λ arguments rest. with_target arguments rest o)) read
    ∙ ap (λ o. if is_no_call q then None else o) (called_as q (arguments_at ts))

-- what begins the place is the tokens before this index, and the calls sought are its own
pub record Calls (ts : List ReadToken) (wanted : Found Simple) (end n : ℕ) (parts : List Start) : Type 0 where
  pub q : Expr
  pub mid : List ReadToken
  pub tail : List ReadToken
  pub place : is_place q ≡ true
  pub fits : Fits q
  pub whole : ts ≡ spell q ++ (mid ++ tail)
  pub long : length (spell q) ≡ n
  pub total : n + length mid ≡ end
  pub parted : parts ≡ outer q mid
  pub same : calls_at q (mid ++ tail) ≡ wanted

calls_from : (ts parts : _) (end : ℕ) (p : Expr) (rest : List ReadToken) → end ≤ length ts → place_at ts ≡ found_pair p rest → rest ≡ drop end ts
    → parts ≡ starts 0 (take end ts) → Calls ts (calls_at p rest) end end parts
calls_from ts parts end p rest within h left found =
    let there = place_kept ts rest p (sym h) in
    let whole : ts ≡ spell p ++ rest = there.0 in
    let long : length ts ≡ length (spell p) + length rest = ap length whole ∙ length-append (spell p) rest in
    let back : length rest ≡ length ts - end = ap length left ∙ length-drop end ts in
    let n : length (spell p) ≡ end = omega arith in
    let front : take end ts ≡ spell p ++ [] = ap (take end) whole ∙ take_at (spell p) rest end n ∙ sym (append-nil (spell p)) in
    record {
      q = p;
      mid = [];
      tail = rest;
      place = there.1;
      fits = there.2;
      whole = whole;
      long = n;
      total = omega arith;
      parted = found ∙ ap (starts 0) front ∙ outer_starts p [] there.1 ∙ append-nil (outer p []);
      same = refl;
    }

pub calls_begin : (ts : List ReadToken) (parts : List Start) (end : ℕ) → end ≤ length ts → option_map (λ f. f.1) (place_at ts) ≡ Some (drop end ts)
    → parts ≡ starts 0 (take end ts) → Calls ts (place_calls ts) end end parts
calls_begin ts parts end within placed found = at (place_at ts) refl
  where
    rest_is : (r s : List ReadToken) → Some r ≡ Some s → r ≡ s
    rest_is r s h = cc

    at : (o : Found Expr) → place_at ts ≡ o → Calls ts (place_calls ts) end end parts
    at None h = let none : None ≡ Some (drop end ts) = sym (ap (option_map (λ f. f.1)) h) ∙ placed in absurd cc
    at (Some (p, rest)) h =
        let left = rest_is rest (drop end ts) (sym (ap (option_map (λ f. f.1)) h) ∙ placed) in
        let W : Found Simple → Type 0 = λ w. Calls ts w end end parts in
        subst W (sym (ap (λ o. o >>= calls_at) h)) (calls_from ts parts end p rest within h left found)

-- the tokens before the index, and from it on
front_of : (ts : List ReadToken) (wanted : Found Simple) (end n : ℕ) (parts : List Start) (c : Calls ts wanted end n parts) → take n ts ≡ spell c.q
front_of ts wanted end n parts c = ap (take n) c.whole ∙ take_at (spell c.q) (c.mid ++ c.tail) n c.long

back_of : (ts : List ReadToken) (wanted : Found Simple) (end n : ℕ) (parts : List Start) (c : Calls ts wanted end n parts) → drop n ts ≡ c.mid ++ c.tail
back_of ts wanted end n parts c = ap (drop n) c.whole ∙ drop_at (spell c.q) (c.mid ++ c.tail) n c.long

own_call : (ts : List ReadToken) (wanted : Found Simple) (end n : ℕ) (parts : List Start) (c : Calls ts wanted end n parts)
    → call_by (take n ts) (drop n ts) ≡ called_at c.q (c.mid ++ c.tail)
own_call ts wanted end n parts c =
    ap (λ us. call_by us (drop n ts)) (front_of ts wanted end n parts c)
    ∙ ap (call_by (spell c.q)) (back_of ts wanted end n parts c)
    ∙ call_is c.q (c.mid ++ c.tail) c.place c.fits

pub inside : (ts : List ReadToken) (wanted : Found Simple) (end n : ℕ) (parts : List Start) → Calls ts wanted end n parts → n ≤ length ts
inside ts wanted end n parts c =
    let long : length ts ≡ length (spell c.q) + length (c.mid ++ c.tail) = ap length c.whole ∙ length-append (spell c.q) (c.mid ++ c.tail) in
    let n_is : length (spell c.q) ≡ n = c.long in
    omega arith

-- what is shorter, where the place isn't called
pub record Shrunk (ts : List ReadToken) (wanted : Found Simple) (end : ℕ) (parts : List Start) (part : Start) : Type 0 where
  pub fits : part.left ≤ end
  pub calls : Calls ts wanted end (end - part.left) parts

-- a place and what begins it
record Apart (q base : Expr) (us : List ReadToken) (part : Start) : Type 0 where
  more : List ReadToken
  spelled : spell q ≡ spell base ++ more
  left : part.left ≡ length (more ++ us)
  parts : outer q us ≡ outer base (more ++ us) ++ part ∷ []
  calls : (rest : List ReadToken) → calls_at q rest ≡ or_else (if part.is_bracket then None else called_at q rest) (calls_at base (more ++ rest))

or_none : (o : Found Simple) → or_else None o ≡ o
or_none o = refl

shrink : (ts : List ReadToken) (wanted : Found Simple) (end n : ℕ) (parts init : List Start) (part last : Start) (base : Expr)
    (c : Calls ts wanted end n parts) → parts ≡ init ++ part ∷ [] → Apart c.q base c.mid last → is_place base ≡ true → Fits base
    → None ≡ call_unless part.is_bracket (take n ts) (drop n ts) → Shrunk ts wanted end init part
shrink ts wanted end n parts init part last base c popped apart place fits none =
    let same = one_less init (outer base (apart.more ++ c.mid)) part last (sym popped ∙ c.parted ∙ apart.parts) in
    let long : length (spell c.q) ≡ length (spell base) + length apart.more = ap length apart.spelled ∙ length-append (spell base) apart.more in
    let more_long : length (apart.more ++ c.mid) ≡ length apart.more + length c.mid = length-append apart.more c.mid in
    let left : part.left ≡ length (apart.more ++ c.mid) = ap (λ s. s.left) same.1 ∙ apart.left in
    let n_is : length (spell c.q) ≡ n = c.long in
    let end_is : n + length c.mid ≡ end = c.total in
    let bracket : part.is_bracket ≡ last.is_bracket = ap (λ s. s.is_bracket) same.1 in
    let not_called : (if last.is_bracket then None else called_at c.q (c.mid ++ c.tail)) ≡ None =
    ap (λ b. if b then None else called_at c.q (c.mid ++ c.tail)) (sym bracket)
    ∙ ap (λ o. if part.is_bracket then None else o) (sym (own_call ts wanted end n parts c)) ∙ sym none in
    record {
      fits = omega arith;
      calls = record {
        q = base;
        mid = apart.more ++ c.mid;
        tail = c.tail;
        place = place;
        fits = fits;
        whole =
            c.whole ∙ ap (λ us. us ++ (c.mid ++ c.tail)) apart.spelled
            ∙ append_assoc (spell base) apart.more (c.mid ++ c.tail)
            ∙ ap (λ us. spell base ++ us) (sym (append_assoc apart.more c.mid c.tail));
        long = omega arith;
        total = omega arith;
        parted = same.0;
        same =
            ap (calls_at base) (append_assoc apart.more c.mid c.tail)
            ∙ ap (λ o. or_else o (calls_at base (apart.more ++ (c.mid ++ c.tail)))) (sym not_called)
            ∙ sym (apart.calls (c.mid ++ c.tail))
            ∙ c.same;
      };
    }

apart_member : (base : Expr) (d : Token) (x : Identifier) (us : List ReadToken)
    → Apart (member base d x) base us (record { left = suc (suc (length us)); is_bracket = false })
apart_member base d x us =
    record { more = marked d mark.Dot ∷ naming x ∷ []; spelled = refl; left = refl; parts = refl; calls = λ rest. refl }

apart_index : (base : Expr) (l : Token) (xs : Args) (r : Token) (us : List ReadToken)
    → Apart (index base l xs r) base us (record { left = suc (length (spell_args xs ++ marked r mark.RightParenthesis ∷ us)); is_bracket = true })
apart_index base l xs r us =
    let joined : (rest : List ReadToken) → (spell_args xs ++ marked r mark.RightParenthesis ∷ []) ++ rest ≡ spell_args xs ++ marked r mark.RightParenthesis ∷ rest =
    λ rest. append_assoc (spell_args xs) (marked r mark.RightParenthesis ∷ []) rest in
    record {
      more = marked l mark.LeftParenthesis ∷ (spell_args xs ++ marked r mark.RightParenthesis ∷ []);
      spelled = refl;
      left = ap (λ zs. suc (length zs)) (sym (joined us));
      parts =
          ap (λ zs. outer base (marked l mark.LeftParenthesis ∷ zs)
          ++ record { left = suc (length (spell_args xs ++ marked r mark.RightParenthesis ∷ us)); is_bracket = true } ∷ []) (sym (joined us));
      calls = λ rest. ap (λ zs. calls_at base (marked l mark.LeftParenthesis ∷ zs)) (sym (joined rest));
    }

abbrev member_part : List ReadToken → Start
member_part us = record { left = suc (suc (length us)); is_bracket = false }

abbrev index_part : Args → Token → List ReadToken → Start
index_part xs r us = record { left = suc (length (spell_args xs ++ marked r mark.RightParenthesis ∷ us)); is_bracket = true }

-- the place isn't called: what is shorter
pub goes_back : (ts : List ReadToken) (wanted : Found Simple) (end n : ℕ) (parts init : List Start) (part : Start) → Calls ts wanted end n parts
    → parts ≡ init ++ part ∷ [] → None ≡ call_unless part.is_bracket (take n ts) (drop n ts) → Shrunk ts wanted end init part
goes_back ts wanted end n parts init part c popped none = at c.q refl
  where
    at : (q : Expr) → c.q ≡ q → Shrunk ts wanted end init part
    at (member base d x) e =
        shrink ts wanted end n parts init part (member_part c.mid) base c popped (subst (λ (p : Expr). Apart p base c.mid (member_part c.mid)) (sym e) (apart_member base d x c.mid))
        (ap is_place (sym e) ∙ c.place) (subst Fits e c.fits).1 none
    at (index base l xs r) e =
        shrink ts wanted end n parts init part (index_part xs r c.mid) base c popped (subst (λ (p : Expr). Apart p base c.mid (index_part xs r c.mid)) (sym e) (apart_index base l xs r c.mid))
        (ap is_place (sym e) ∙ c.place) (subst Fits e c.fits).1 none
    at other e = absurd (none_left init part (ap (λ p. outer p c.mid) (sym e) ∙ sym c.parted ∙ popped))

-- the place is called
pub call_found : (ts : List ReadToken) (wanted : Found Simple) (end n : ℕ) (parts init : List Start) (part : Start) (found : Simple × List ReadToken)
    → Calls ts wanted end n parts → parts ≡ init ++ part ∷ [] → Some found ≡ call_unless part.is_bracket (take n ts) (drop n ts) → Some found ≡ wanted
call_found ts wanted end n parts init part found c popped h = at c.q refl
  where
    by : (last : Start) (base : Expr) → Apart c.q base c.mid last → Some found ≡ wanted
    by last base apart =
        let same = one_less init (outer base (apart.more ++ c.mid)) part last (sym popped ∙ c.parted ∙ apart.parts) in
        let own : Some found ≡ (if last.is_bracket then None else called_at c.q (c.mid ++ c.tail)) =
        h ∙ ap (λ o. if part.is_bracket then None else o) (own_call ts wanted end n parts c)
        ∙ ap (λ s. if s.is_bracket then None else called_at c.q (c.mid ++ c.tail)) same.1 in
        ap (λ o. or_else o (calls_at base (apart.more ++ (c.mid ++ c.tail)))) own ∙ sym (apart.calls (c.mid ++ c.tail)) ∙ c.same

    at : (q : Expr) → c.q ≡ q → Some found ≡ wanted
    at (member base d x) e = by (member_part c.mid) base (subst (λ (p : Expr). Apart p base c.mid (member_part c.mid)) (sym e) (apart_member base d x c.mid))
    at (index base l xs r) e = by (index_part xs r c.mid) base (subst (λ (p : Expr). Apart p base c.mid (index_part xs r c.mid)) (sym e) (apart_index base l xs r c.mid))
    at other e = absurd (none_left init part (ap (λ p. outer p c.mid) (sym e) ∙ sym c.parted ∙ popped))

-- nothing is shorter
pub call_ends : (ts : List ReadToken) (wanted : Found Simple) (end n : ℕ) (parts : List Start) → Calls ts wanted end n parts → length parts ≡ 0
    → call_by (take n ts) (drop n ts) ≡ wanted
call_ends ts wanted end n parts c none = own_call ts wanted end n parts c ∙ at c.q refl ∙ c.same
  where
    no_last : (init : List Start) (last : Start) → parts ≡ init ++ last ∷ [] → ⊥
    no_last init last h = let long : length parts ≡ length (init ++ last ∷ []) = ap length h in absurd (omega (arith, long, none, length-append init (last ∷ [])))

    at : (q : Expr) → c.q ≡ q → called_at c.q (c.mid ++ c.tail) ≡ calls_at c.q (c.mid ++ c.tail)
    at (name x) e = rw e refl
    at (me t) e = rw e refl
    at (with_member d x) e = rw e refl
    at (member base d x) e = absurd (no_last _ _ (c.parted ∙ ap (λ p. outer p c.mid) e))
    at (index base l xs r) e = absurd (no_last _ _ (c.parted ∙ ap (λ p. outer p c.mid) e))
    at other e = let no : false ≡ true = ap is_place (sym e) ∙ c.place in absurd cc
