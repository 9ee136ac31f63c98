-- Reading an expression, and reading arguments, are the inverses of spelling.
use Rattle.std.proofs.Common.{◌≡◌, ℕ, suc, ◌<◌, ◌≤◌, length, true, false, List, [], ◌∷◌, ◌++◌, Option, Some, None, refl, sym, ap, ◌∙◌, subst, arith, append_assoc}
use Rattle.std.specs.Prelude.{nat_lt, if◌then◌else◌}
use Rattle.std.proofs.lemmas.Bool.{le-ltb, ltb-true, ltb-false, cond_both}
use Rattle.std.proofs.lemmas.List.{append-nil}
use Rattle.vba_lexer.specs.declared.token.Token.{Token}
use Rattle.vba_words.specs.declared.identifier.Identifier.{Identifier}
use Rattle.vba_words.specs.declared.mark.Mark.TheVariants as mark
use Rattle.vba_words.specs.declared.reading.ReadToken.{ReadToken}
use Rattle.vba_words.specs.Spelling.{marked, naming}
use Rattle.vba_expression.specs.declared.operator.BinaryOperator.{BinaryOperator}
use Rattle.vba_expression.specs.declared.part.Part.{Part}
use Rattle.vba_expression.specs.declared.part.Part.TheVariants as part
use Rattle.vba_expression.specs.Tree.{Expr, name, unary, binary, Args, no_args, missing, plain, named}
use Rattle.vba_expression.specs.Spelling.{comma_tokens, spell, spell_args}
use Rattle.vba_expression.specs.Fitting.{unary_level, binary_level, level, is_lone, CommaFits, Fits, FitsArgs}
use Rattle.vba_expression.specs.Parts.{part_of}
use Rattle.vba_expression.specs.Reader.{call, Frame, whole, right_operand, unary_operand, inner, type_of_operand, argument, named_argument, State, want, have, room, reduce, loosest, last_missing, operated, next_argument, closed, naming_argument, had, after, step, next, run, settled, finished, finished_arguments, with_rest, expression_at, arguments_at}
use Rattle.vba_expression.specs.Taking.{StopsAt, Stops, Takes, ClosesAt, Closes, TakesArgs}
use Rattle.vba_expression.proofs.Reducing.{binary_small, unary_small, chosen_false}
use Rattle.vba_expression.proofs.Complete.{peak, at, reduced, level_small, binary_not_unary, loosest_not_unary, unwinds, refused, at_args, bracketed, last_is, reads, reads_args}
use Rattle.vba_expression.proofs.Sound.{frames, Reduced, Ran, Ended, ready, told_run}

abbrev floor : ℕ → List Frame
floor n = whole n ∷ []

-- a name that is the whole expression names no argument
NotArgument : List Frame → Type 0
NotArgument (argument h xs c ∷ fs) = ⊥
NotArgument fs = Unit {0}

no_name : (x : Identifier) (fs : List Frame) (t : Token) → NotArgument fs → naming_argument (name x) fs t ≡ None
unfolding NotArgument
no_name x (argument h xs c ∷ fs) t h1 = absurd h1
no_name x other t h1 = refl

no_naming : (e : Expr) (fs : List Frame) (t : Token) → NotArgument fs → naming_argument (peak e fs).0 (peak e fs).1 t ≡ None
unfolding NotArgument
no_naming (unary u v e) fs t h = no_naming e (unary_operand u v ∷ fs) t tt
no_naming (binary a o v b) fs t h = no_naming b (right_operand a o v ∷ fs) t tt
no_naming (name x) fs t h = no_name x fs t h
no_naming other fs t h = refl

on_floor : (n : ℕ) (e : Expr) → Fits e → reduced loosest (peak e (floor n)) ≡ (e, floor n)
on_floor n e w = unwinds e loosest (floor n) loosest_not_unary (omega (arith, level_small e)) w

stays_at : (n : ℕ) (e : Expr) (t : Token) (p : Part) → level e < n → Fits e → StopsAt n p → after (at (peak e (floor n))) t p ≡ None
unfolding NotArgument
stays_at n e t (part.Operator o) l w h =
    ap (λ p. operated p.0 p.1 o t) (unwinds e (binary_level o) (floor n) (binary_not_unary o) (omega (arith, h)) w)
    ∙ chosen_false (nat_lt (binary_level o) n) _ _ (le-ltb (binary_level o) n h)
stays_at n e t part.LeftParenthesis l w h = absurd h
stays_at n e t part.Dot l w h = absurd h
stays_at n e t part.Comma l w h = ap (λ p. next_argument p.0 p.1 t) (on_floor n e w)
stays_at n e t part.RightParenthesis l w h = ap (λ p. closed p.0 p.1 t) (on_floor n e w)
stays_at n e t part.ColonEqual l w h = no_naming e (floor n) t tt
stays_at n e t other l w h = refl

stays : (n : ℕ) (e : Expr) (rest : List ReadToken) → level e < n → Fits e → Stops n rest
    → run (at (peak e (floor n))) rest ≡ (at (peak e (floor n)), rest)
stays n e [] l w h = refl
stays n e (t ∷ ts) l w h = refused (at (peak e (floor n))) t ts (stays_at n e t.token (part_of t) l w h)

-- what is spelled is read
pub again : (n : ℕ) (ts rest : List ReadToken) (e : Expr) → Takes n ts e rest → expression_at n ts ≡ Some (e, rest)
again n ts rest e p =
    ap (expression_at n) p.same
    ∙ (ap (λ r. with_rest r.1 (finished (settled r.0))) (reads e (floor n) rest p.under p.fits ∙ stays n e rest p.under p.fits p.stops)
    ∙ ap (λ q. with_rest rest (finished (have q.0 q.1))) (on_floor n e p.fits))

-- where an operator can't be read, the floor is as tight
abbrev Halts : ℕ → BinaryOperator → Token → Expr × List Frame → Type 0
Halts n o t p = operated p.0 p.1 o t ≡ None → n ≤ binary_level o

right_none : (o : BinaryOperator) (n : ℕ) (s : State) → (if nat_lt (binary_level o) n then Some s else None) ≡ None → n ≤ binary_level o
right_none o n s = cond_both (nat_lt (binary_level o) n) (Some s) None (λ r. r ≡ None → n ≤ binary_level o)
    (λ t h. absurd cc) (λ t h. ltb-false (binary_level o) n t)

halts_if : (n m : ℕ) (o : BinaryOperator) (t : Token) (x y : Expr × List Frame) → (nat_lt (binary_level o) m ≡ true → Halts n o t x)
    → Halts n o t y → Halts n o t (if nat_lt (binary_level o) m then x else y)
halts_if n m o t x y f g = cond_both (nat_lt (binary_level o) m) x y (Halts n o t) f (λ e. g)

ends_at : (n : ℕ) (o : BinaryOperator) (t : Token) (e : Expr) (fs : List Frame) → (reduce loosest e fs).1 ≡ floor n
    → Halts n o t (reduce (binary_level o) e fs)
ends_at n o t e [] f = absurd cc
ends_at n o t e (whole m ∷ fs) f = λ h.
    let le = right_none o m (want (right_operand e o t ∷ whole m ∷ fs)) h in
    let eq = ap room f in omega arith
ends_at n o t e (right_operand a p u ∷ fs) f =
    let g = sym (ap (λ q. q.1) (chosen_false (nat_lt loosest (binary_level p)) (e, right_operand a p u ∷ fs) (reduce loosest (binary a p u e) fs)
    (le-ltb loosest (binary_level p) (omega (arith, binary_small p))))) ∙ f in
    halts_if n (binary_level p) o t _ _
    (λ lt h. let le = right_none o (binary_level p) (want (right_operand e o t ∷ right_operand a p u ∷ fs)) h in
    let l2 = ltb-true (binary_level o) (binary_level p) lt in absurd (omega arith))
    (ends_at n o t (binary a p u e) fs g)
ends_at n o t e (unary_operand p u ∷ fs) f =
    let g = sym (ap (λ q. q.1) (chosen_false (nat_lt loosest (suc (unary_level p))) (e, unary_operand p u ∷ fs) (reduce loosest (unary p u e) fs)
    (le-ltb loosest (suc (unary_level p)) (omega (arith, unary_small p))))) ∙ f in
    halts_if n (suc (unary_level p)) o t _ _
    (λ lt h. let le = right_none o (suc (unary_level p)) (want (right_operand e o t ∷ unary_operand p u ∷ fs)) h in
    let l2 = ltb-true (binary_level o) (suc (unary_level p)) lt in absurd (omega arith))
    (ends_at n o t (unary p u e) fs g)
ends_at n o t e (inner l ∷ fs) f = absurd cc
ends_at n o t e (type_of_operand w ∷ fs) f = absurd cc
ends_at n o t e (argument h xs c ∷ fs) f = absurd cc
ends_at n o t e (named_argument h xs c x g ∷ fs) f = absurd cc

part_ends : (n : ℕ) (e : Expr) (fs : List Frame) (t : Token) (p : Part) → had e fs t p ≡ None → (reduce loosest e fs).1 ≡ floor n → StopsAt n p
part_ends n e fs t (part.Operator o) h f = ends_at n o t e fs f h
part_ends n e fs t part.LeftParenthesis h f = absurd cc
part_ends n e fs t part.Dot h f = absurd cc
part_ends n e fs t other h f = tt

have_ends : (n : ℕ) (e : Expr) (fs : List Frame) (ts : List ReadToken) → Ended n (have e fs) ts → (reduce loosest e fs).1 ≡ floor n → Stops n ts
have_ends n e fs [] h f = tt
have_ends n e fs (t ∷ ts) h f = part_ends n e fs t.token (part_of t) h f

abbrev pub Found : Expr → List ReadToken → Option (Expr × List ReadToken)
Found e ts = Some (e, ts)

some_is : (p q : Expr × List ReadToken) → Some p ≡ Some q → p ≡ q
some_is p q h = cc

pub some_pair : (a c : Expr) (b d : List ReadToken) → Found a b ≡ Found c d → (a ≡ c) × (b ≡ d)
some_pair a c b d h = let e = some_is (a, b) (c, d) h in (ap (λ p. p.0) e, ap (λ p. p.1) e)

takes_to : (n : ℕ) (ts : List ReadToken) (e u : Expr) (rest r : List ReadToken) → Takes n ts e rest → Found e rest ≡ Found u r → Takes n ts u r
takes_to n ts e u rest r p h =
    let ep = some_pair e u rest r h in
    record {
      same = p.same ∙ ap (λ x. spell x ++ rest) ep.0 ∙ ap (λ x. spell u ++ x) ep.1;
      under = subst (λ x. level x < n) ep.0 p.under;
      fits = subst Fits ep.0 p.fits;
      stops = subst (Stops n) ep.1 p.stops;
    }

whole_takes : (n : ℕ) (ts rest us : List ReadToken) (e u : Expr) (fs : List Frame) (r : List ReadToken) → us ++ rest ≡ ts
    → (fs ≡ floor n → Stops n rest) → Reduced n loosest us (e, fs) → with_rest rest (finished (have e fs)) ≡ Found u r → Takes n ts u r
whole_takes n ts rest us e u (whole m ∷ []) r same st p h =
    let me : m ≡ n = p.below.0.1 in
    takes_to n ts e u rest r
    (record {
      same = sym same ∙ ap (λ xs. xs ++ rest) (sym p.same);
      under = omega (arith, p.under);
      fits = p.fits;
      stops = st (ap (λ k. whole k ∷ []) me);
    }) h
whole_takes n ts rest us e u other r same st p h = absurd cc

state_takes : (n : ℕ) (ts : List ReadToken) (s : State) (rest : List ReadToken) (u : Expr) (r : List ReadToken) → Ran n ts (s, rest)
    → with_rest rest (finished (settled s)) ≡ Found u r → Takes n ts u r
state_takes n ts (have e fs) rest u r p h =
    whole_takes n ts rest (frames fs ++ spell e) _ u _ r p.0 (have_ends n e fs rest p.2) (ready n loosest e fs p.1) h
state_takes n ts other rest u r p h = absurd cc

-- what is read is spelled
pub takes : (n : ℕ) (ts rest : List ReadToken) (e : Expr) → 0 < n → expression_at n ts ≡ Some (e, rest) → Takes n ts e rest
takes n ts rest e pos h = state_takes n ts _ _ e rest (told_run n (want (floor n)) ts ((pos, refl), tt)) h

-- one tree for each spelling
pub one : (n : ℕ) (ts r s : List ReadToken) (t u : Expr) → Takes n ts t r → Takes n ts u s → (t ≡ u) × (r ≡ s)
one n ts r s t u p q = let e = sym (again n ts r t p) ∙ again n ts s u q in some_pair t u r s e

pub one_spelled : (t u : Expr) → Fits t → Fits u → spell t ≡ spell u → t ≡ u
one_spelled t u v w h =
    let p : Takes 15 (spell t) t [] = record { same = sym (append-nil (spell t)); under = level_small t; fits = v; stops = tt } in
    let q : Takes 15 (spell t) u [] = record { same = h ∙ sym (append-nil (spell u)); under = level_small u; fits = w; stops = tt } in
    (one 15 (spell t) [] [] t u p q).0

pub none : (n : ℕ) (ts rest : List ReadToken) (e : Expr) → expression_at n ts ≡ None → Takes n ts e rest → ⊥
none n ts rest e h p = let q = sym h ∙ again n ts rest e p in absurd cc

-- a reading leaves no more than there is
run_leaves : (s : State) (ts : List ReadToken) → length (run s ts).1 ≤ length ts
run_leaves s [] = omega arith
run_leaves s (t ∷ ts) = at_step (step s t) (λ s1. run_leaves s1 ts)
  where
    at_step : (o : Option State) → ((s1 : State) → length (run s1 ts).1 ≤ length ts) → length (next o (λ s1. run s1 ts) (s, t ∷ ts)).1 ≤ suc (length ts)
    at_step None less = omega arith
    at_step (Some s1) less = omega (arith, less s1)

rest_is : (o : Option Expr) (ts : List ReadToken) (u : Expr) (r : List ReadToken) → with_rest ts o ≡ Found u r → ts ≡ r
rest_is None ts u r h = absurd cc
rest_is (Some e) ts u r h = (some_pair e u ts r h).1

-- what is read is as long as it can be: no fitting tree at the front leaves less
pub longest : (n : ℕ) (ts rest r : List ReadToken) (e u : Expr) → expression_at n ts ≡ Some (e, rest) → Fits u → level u < n → ts ≡ spell u ++ r
    → length rest ≤ length r
longest n ts rest r e u h w l same =
    let ran : run (want (floor n)) ts ≡ run (at (peak u (floor n))) r = ap (run (want (floor n))) same ∙ reads u (floor n) r l w in
    let left : (run (want (floor n)) ts).1 ≡ rest = rest_is (finished (settled (run (want (floor n)) ts).0)) _ e rest h in
    let le : length (run (at (peak u (floor n))) r).1 ≤ length r = run_leaves (at (peak u (floor n))) r in
    subst (λ x. length x ≤ length r) (sym (ap (λ p. p.1) ran) ∙ left) le

-- arguments before what closes them
closes_at : (xs : Args) (t : Token) (p : Part) → FitsArgs xs → ClosesAt p → after (at_args xs call []) t p ≡ None
closes_at no_args t part.RightParenthesis w c = refl
closes_at no_args t part.Outside w c = refl
closes_at (missing xs d) t part.RightParenthesis w c = refl
closes_at (missing xs d) t part.Outside w c = refl
closes_at (plain xs d e) t part.RightParenthesis w c =
    ap (λ p. closed p.0 p.1 t) (bracketed e (argument call xs d ∷ []) w.2 (omega arith))
closes_at (plain xs d e) t part.Outside w c = refl
closes_at (named xs d x g e) t part.RightParenthesis w c =
    ap (λ p. closed p.0 p.1 t) (bracketed e (named_argument call xs d x g ∷ []) w.2 (omega arith))
closes_at (named xs d x g e) t part.Outside w c = refl
closes_at xs t other w c = absurd c

closes : (xs : Args) (rest : List ReadToken) → FitsArgs xs → Closes rest → run (at_args xs call []) rest ≡ (at_args xs call [], rest)
closes xs [] w c = refl
closes xs (t ∷ ts) w c = refused (at_args xs call []) t ts (closes_at xs t.token (part_of t) w c)

call_finished : (xs : Args) → FitsArgs xs → is_lone xs ≡ false → finished_arguments (settled (at_args xs call [])) ≡ Some xs
call_finished no_args w l = refl
call_finished (missing xs d) w l = ap Some (last_is xs d w.1 l)
call_finished (plain xs d e) w l = ap (λ p. finished_arguments (have p.0 p.1)) (bracketed e (argument call xs d ∷ []) w.2 (omega arith))
call_finished (named xs d x g e) w l =
    ap (λ p. finished_arguments (have p.0 p.1)) (bracketed e (named_argument call xs d x g ∷ []) w.2 (omega arith))

pub args_again : (ts rest : List ReadToken) (xs : Args) → TakesArgs ts xs rest → Closes rest → arguments_at ts ≡ Some (xs, rest)
args_again ts rest xs p c =
    ap arguments_at p.same
    ∙ (ap (λ r. with_rest r.1 (finished_arguments (settled r.0))) (reads_args xs call [] rest p.fits ∙ closes xs rest p.fits c)
    ∙ ap (with_rest rest) (call_finished xs p.fits p.written))

abbrev pub FoundArgs : Args → List ReadToken → Option (Args × List ReadToken)
FoundArgs xs ts = Some (xs, ts)

args_is : (p q : Args × List ReadToken) → Some p ≡ Some q → p ≡ q
args_is p q h = cc

pub args_pair : (a c : Args) (b d : List ReadToken) → FoundArgs a b ≡ FoundArgs c d → (a ≡ c) × (b ≡ d)
args_pair a c b d h = let e = args_is (a, b) (c, d) h in (ap (λ p. p.0) e, ap (λ p. p.1) e)

args_to : (ts : List ReadToken) (xs ys : Args) (rest r : List ReadToken) → TakesArgs ts xs rest → FoundArgs xs rest ≡ FoundArgs ys r → TakesArgs ts ys r
args_to ts xs ys rest r p h =
    let ep = args_pair xs ys rest r h in
    record {
      same = p.same ∙ ap (λ x. spell_args x ++ rest) ep.0 ∙ ap (λ x. spell_args ys ++ x) ep.1;
      fits = subst FitsArgs ep.0 p.fits;
      written = subst (λ x. is_lone x ≡ false) ep.0 p.written;
    }

named_last : (a c e : List ReadToken) (n g : ReadToken) → (a ++ (c ++ n ∷ g ∷ [])) ++ e ≡ a ++ (c ++ n ∷ g ∷ e)
named_last a c e n g = simp append_assoc

last_takes : (ts us rest : List ReadToken) (e : Expr) (fs : List Frame) (ys : Args) (r : List ReadToken) → us ++ rest ≡ ts → Reduced 1 loosest us (e, fs)
    → with_rest rest (finished_arguments (have e fs)) ≡ FoundArgs ys r → TakesArgs ts ys r
last_takes ts us rest e (argument call xs c ∷ []) ys r same p h =
    args_to ts (plain xs c e) ys rest r
    (record {
      same = sym same ∙ ap (λ x. x ++ rest) (sym p.same ∙ append_assoc (spell_args xs) (comma_tokens c) (spell e));
      fits = (p.below.0.1, p.below.0.2, p.fits);
      written = refl;
    }) h
last_takes ts us rest e (named_argument call xs c x g ∷ []) ys r same p h =
    args_to ts (named xs c x g e) ys rest r
    (record {
      same = sym same ∙ ap (λ x. x ++ rest) (sym p.same ∙ named_last (spell_args xs) (comma_tokens c) (spell e) (naming x) (marked g mark.ColonEqual));
      fits = (p.below.0.1, p.below.0.2, p.fits);
      written = refl;
    }) h
last_takes ts us rest e other ys r same p h = absurd cc

-- behind the last comma an argument isn't written
missing_takes : (xs : Args) (c : Option Token) (ts rest : List ReadToken) → (spell_args xs ++ comma_tokens c) ++ rest ≡ ts → FitsArgs xs → CommaFits xs c
    → TakesArgs ts (last_missing xs c) rest
missing_takes no_args None ts rest same w c = record { same = sym same; fits = tt; written = refl }
missing_takes no_args (Some t) ts rest same w c = absurd c
missing_takes (missing xs d) (Some t) ts rest same w c = record { same = sym same; fits = (w, tt); written = refl }
missing_takes (plain xs d e) (Some t) ts rest same w c = record { same = sym same; fits = (w, tt); written = refl }
missing_takes (named xs d x g e) (Some t) ts rest same w c = record { same = sym same; fits = (w, tt); written = refl }
missing_takes xs None ts rest same w c = absurd c

want_takes : (ts rest : List ReadToken) (fs : List Frame) (ys : Args) (r : List ReadToken) → Ran 1 ts (want fs, rest)
    → with_rest rest (finished_arguments (want fs)) ≡ FoundArgs ys r → TakesArgs ts ys r
want_takes ts rest (argument call xs c ∷ []) ys r p h =
    args_to ts (last_missing xs c) ys rest r (missing_takes xs c ts rest p.0 p.1.0.1 p.1.0.2) h
want_takes ts rest other ys r p h = absurd cc

state_args : (ts : List ReadToken) (s : State) (rest : List ReadToken) (ys : Args) (r : List ReadToken) → Ran 1 ts (s, rest)
    → with_rest rest (finished_arguments (settled s)) ≡ FoundArgs ys r → TakesArgs ts ys r
state_args ts (have e fs) rest ys r p h = last_takes ts (frames fs ++ spell e) rest _ _ ys r p.0 (ready 1 loosest e fs p.1) h
state_args ts (want fs) rest ys r p h = want_takes ts rest fs ys r p h
state_args ts other rest ys r p h = absurd cc

pub args_takes : (ts rest : List ReadToken) (xs : Args) → arguments_at ts ≡ Some (xs, rest) → TakesArgs ts xs rest
args_takes ts rest xs h = state_args ts _ _ xs rest (told_run 1 (want (argument call no_args None ∷ [])) ts ((tt, tt, tt), tt)) h
