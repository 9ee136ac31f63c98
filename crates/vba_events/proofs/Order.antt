-- Links put in order: what comes last, what is left out, and what stands.
use Rattle.std.proofs.Common.{◌≡◌, ℕ, ◌<◌, ◌≤◌, Bool, true, false, cond, List, [], ◌∷◌, ◌++◌, refl, sym, ap, ◌∙◌, arith}
use Rattle.std.specs.Prelude.{nat_lt, ◌||◌}
use Rattle.std.specs.List.{filter, list_any}
use Rattle.std.proofs.lemmas.Bool.{ltb-true, ltb-false, lt-ltb, le-ltb}
use Rattle.vba_events.specs.declared.linked.Linked.{Linked}
use Rattle.vba_events.specs.Order.{insert_link, in_order, AllBelow}

pub below_more : (m n : ℕ) (ls : List Linked) → m ≤ n → AllBelow m ls → AllBelow n ls
below_more m n [] le h = tt
below_more m n (l ∷ ls) le h = (omega (arith, h.0, le), below_more m n ls le h.1)

pub below_filter : (n : ℕ) (p : Linked → Bool) (ls : List Linked) → AllBelow n ls → AllBelow n (filter p ls)
below_filter n p [] h = tt
below_filter n p (l ∷ ls) h = by_test (p l) (below_filter n p ls h.1) where
  by_test : (b : Bool) → AllBelow n (filter p ls) → AllBelow n (cond b (l ∷ filter p ls) (filter p ls))
  by_test true r = (h.0, r)
  by_test false r = r

below_insert : (n : ℕ) (l : Linked) (ks : List Linked) → l.number < n → AllBelow n ks → AllBelow n (insert_link l ks)
below_insert n l [] lt h = (lt, tt)
below_insert n l (k ∷ ks) lt h = by_test (nat_lt l.number k.number) (below_insert n l ks lt h.1) where
  by_test : (b : Bool) → AllBelow n (insert_link l ks) → AllBelow n (cond b (l ∷ k ∷ ks) (k ∷ insert_link l ks))
  by_test true r = (lt, (h.0, h.1))
  by_test false r = (h.0, r)

pub below_order : (n : ℕ) (ls : List Linked) → AllBelow n ls → AllBelow n (in_order ls)
below_order n [] h = tt
below_order n (l ∷ ls) h = below_insert n l (in_order ls) h.0 (below_order n ls h.1)

insert_last : (l : Linked) (ks : List Linked) → AllBelow l.number ks → insert_link l ks ≡ ks ++ l ∷ []
insert_last l [] h = refl
insert_last l (k ∷ ks) h =
    ap (λ b. cond b (l ∷ k ∷ ks) (k ∷ insert_link l ks)) (le-ltb l.number k.number (omega (arith, h.0))) ∙ ap (λ t. k ∷ t) (insert_last l ks h.1)

insert_before : (l : Linked) (ks : List Linked) (x : Linked) → l.number < x.number → insert_link l (ks ++ x ∷ []) ≡ insert_link l ks ++ x ∷ []
insert_before l [] x lt = ap (λ b. cond b (l ∷ x ∷ []) (x ∷ l ∷ [])) (lt-ltb l.number x.number lt)
insert_before l (k ∷ ks) x lt = by_test (nat_lt l.number k.number) (insert_before l ks x lt) where
  by_test : (b : Bool) → insert_link l (ks ++ x ∷ []) ≡ insert_link l ks ++ x ∷ []
      → cond b (l ∷ k ∷ (ks ++ x ∷ [])) (k ∷ insert_link l (ks ++ x ∷ [])) ≡ cond b (l ∷ k ∷ ks) (k ∷ insert_link l ks) ++ x ∷ []
  by_test true h = refl
  by_test false h = ap (λ t. k ∷ t) h

-- the link with the greatest number comes last
pub order_greatest : (x : Linked) (ls : List Linked) → AllBelow x.number ls → in_order (x ∷ ls) ≡ in_order ls ++ x ∷ []
order_greatest x ls h = insert_last x (in_order ls) (below_order x.number ls h)

pub order_more : (l x : Linked) (ks ls : List Linked) → l.number < x.number → in_order ks ≡ in_order ls ++ x ∷ [] → in_order (l ∷ ks) ≡ in_order (l ∷ ls) ++ x ∷ []
order_more l x ks ls lt h = ap (λ t. insert_link l t) h ∙ insert_before l (in_order ls) x lt

abbrev AtLeast : ℕ → List Linked → Type 0
AtLeast n [] = Unit {0}
AtLeast n (l ∷ ls) = (n ≤ l.number) × AtLeast n ls

abbrev pub AllAbove : ℕ → List Linked → Type 0
AllAbove n [] = Unit {0}
AllAbove n (l ∷ ls) = (n < l.number) × AllAbove n ls

abbrev Ascends : List Linked → Type 0
Ascends [] = Unit {0}
Ascends (l ∷ ls) = AtLeast l.number ls × Ascends ls

at_least_more : (m n : ℕ) (ls : List Linked) → m ≤ n → AtLeast n ls → AtLeast m ls
at_least_more m n [] le h = tt
at_least_more m n (l ∷ ls) le h = (omega (arith, h.0, le), at_least_more m n ls le h.1)

at_least_insert : (n : ℕ) (l : Linked) (ks : List Linked) → n ≤ l.number → AtLeast n ks → AtLeast n (insert_link l ks)
at_least_insert n l [] le h = (le, tt)
at_least_insert n l (k ∷ ks) le h = by_test (nat_lt l.number k.number) (at_least_insert n l ks le h.1) where
  by_test : (b : Bool) → AtLeast n (insert_link l ks) → AtLeast n (cond b (l ∷ k ∷ ks) (k ∷ insert_link l ks))
  by_test true r = (le, (h.0, h.1))
  by_test false r = (h.0, r)

ascends_insert : (l : Linked) (ks : List Linked) → Ascends ks → Ascends (insert_link l ks)
ascends_insert l [] h = (tt, tt)
ascends_insert l (k ∷ ks) h = by_test (nat_lt l.number k.number) refl (ascends_insert l ks h.1) where
  by_test : (b : Bool) → nat_lt l.number k.number ≡ b → Ascends (insert_link l ks) → Ascends (cond b (l ∷ k ∷ ks) (k ∷ insert_link l ks))
  by_test true e r =
      let lt = ltb-true l.number k.number e in
      ((omega (arith, lt), at_least_more l.number k.number ks (omega (arith, lt)) h.0), h)
  by_test false e r = (at_least_insert k.number l ks (ltb-false l.number k.number e) h.0, r)

ascends_order : (ls : List Linked) → Ascends (in_order ls)
ascends_order [] = tt
ascends_order (l ∷ ls) = ascends_insert l (in_order ls) (ascends_order ls)

insert_first : (l : Linked) (ks : List Linked) → AllAbove l.number ks → insert_link l ks ≡ l ∷ ks
insert_first l [] h = refl
insert_first l (k ∷ ks) h = ap (λ b. cond b (l ∷ k ∷ ks) (k ∷ insert_link l ks)) (lt-ltb l.number k.number h.0)

pub above_filter : (n : ℕ) (p : Linked → Bool) (ls : List Linked) → AllAbove n ls → AllAbove n (filter p ls)
above_filter n p [] h = tt
above_filter n p (l ∷ ls) h = by_test (p l) (above_filter n p ls h.1) where
  by_test : (b : Bool) → AllAbove n (filter p ls) → AllAbove n (cond b (l ∷ filter p ls) (filter p ls))
  by_test true r = (h.0, r)
  by_test false r = r

above_at_least : (m n : ℕ) (ls : List Linked) → m < n → AtLeast n ls → AllAbove m ls
above_at_least m n [] lt h = tt
above_at_least m n (l ∷ ls) lt h = (omega (arith, h.0, lt), above_at_least m n ls lt h.1)

filter_insert : (p : Linked → Bool) (l : Linked) (ks : List Linked) → Ascends ks → filter p (insert_link l ks) ≡ cond (p l) (insert_link l (filter p ks)) (filter p ks)
filter_insert p l [] h = refl
filter_insert p l (k ∷ ks) h = by_test (nat_lt l.number k.number) refl (filter_insert p l ks h.1) where
  by_both : (bk bl : Bool) → nat_lt l.number k.number ≡ false → (rest : List Linked) → rest ≡ cond bl (insert_link l (filter p ks)) (filter p ks)
      → cond bk (k ∷ rest) rest ≡ cond bl (insert_link l (cond bk (k ∷ filter p ks) (filter p ks))) (cond bk (k ∷ filter p ks) (filter p ks))
  by_both true true e rest r = ap (λ t. k ∷ t) r ∙ ap (λ b. cond b (l ∷ k ∷ filter p ks) (k ∷ insert_link l (filter p ks))) (sym e)
  by_both true false e rest r = ap (λ t. k ∷ t) r
  by_both false true e rest r = r
  by_both false false e rest r = r

  by_test : (b : Bool) → nat_lt l.number k.number ≡ b → filter p (insert_link l ks) ≡ cond (p l) (insert_link l (filter p ks)) (filter p ks)
      → filter p (cond b (l ∷ k ∷ ks) (k ∷ insert_link l ks)) ≡ cond (p l) (insert_link l (filter p (k ∷ ks))) (filter p (k ∷ ks))
  by_test true e r =
      let lt = ltb-true l.number k.number e in
      let above : AllAbove l.number (k ∷ ks) = (lt, above_at_least l.number k.number ks lt h.0) in
      ap (λ t. cond (p l) t (filter p (k ∷ ks))) (sym (insert_first l (filter p (k ∷ ks)) (above_filter l.number p (k ∷ ks) above)))
  by_test false e r = by_both (p k) (p l) e (filter p (insert_link l ks)) r

-- leaving links out and putting them in order can change places
pub filter_order : (p : Linked → Bool) (ls : List Linked) → filter p (in_order ls) ≡ in_order (filter p ls)
filter_order p [] = refl
filter_order p (l ∷ ls) = filter_insert p l (in_order ls) (ascends_order ls) ∙ by_test (p l) (filter_order p ls) where
  by_test : (b : Bool) → filter p (in_order ls) ≡ in_order (filter p ls)
      → cond b (insert_link l (filter p (in_order ls))) (filter p (in_order ls)) ≡ in_order (cond b (l ∷ filter p ls) (filter p ls))
  by_test true r = ap (λ t. insert_link l t) r
  by_test false r = r

or_swap : (a b c : Bool) → (a || (b || c)) ≡ (b || (a || c))
or_swap true true c = refl
or_swap true false c = refl
or_swap false true c = refl
or_swap false false c = refl

any_insert : (p : Linked → Bool) (l : Linked) (ks : List Linked) → list_any p (insert_link l ks) ≡ (p l || list_any p ks)
any_insert p l [] = refl
any_insert p l (k ∷ ks) = by_test (nat_lt l.number k.number) (any_insert p l ks) where
  by_test : (b : Bool) → list_any p (insert_link l ks) ≡ (p l || list_any p ks)
      → list_any p (cond b (l ∷ k ∷ ks) (k ∷ insert_link l ks)) ≡ (p l || list_any p (k ∷ ks))
  by_test true r = refl
  by_test false r = ap (λ t. p k || t) r ∙ or_swap (p k) (p l) (list_any p ks)

pub any_order : (p : Linked → Bool) (ls : List Linked) → list_any p (in_order ls) ≡ list_any p ls
any_order p [] = refl
any_order p (l ∷ ls) = any_insert p l (in_order ls) ∙ ap (λ t. p l || t) (any_order p ls)

pub filter_append : (p : Linked → Bool) (ls ks : List Linked) → filter p (ls ++ ks) ≡ filter p ls ++ filter p ks
filter_append p [] ks = refl
filter_append p (l ∷ ls) ks = by_test (p l) (filter_append p ls ks) where
  by_test : (b : Bool) → filter p (ls ++ ks) ≡ filter p ls ++ filter p ks
      → cond b (l ∷ filter p (ls ++ ks)) (filter p (ls ++ ks)) ≡ cond b (l ∷ filter p ls) (filter p ls) ++ filter p ks
  by_test true r = ap (λ t. l ∷ t) r
  by_test false r = r

abbrev pub Rising : List Linked → Type 0
Rising [] = Unit {0}
Rising (l ∷ ls) = AllAbove l.number ls × Rising ls

pub order_rising : (ls : List Linked) → Rising ls → in_order ls ≡ ls
order_rising [] h = refl
order_rising (l ∷ ls) h = ap (λ t. insert_link l t) (order_rising ls h.1) ∙ insert_first l ls h.0
