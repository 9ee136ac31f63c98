-- Links under other names: they stand in the same order, since no two have the same number.
use Rattle.std.proofs.Common.{◌≡◌, ℕ, zero, suc, ◌+◌, ◌<◌, Bool, true, false, cond, List, [], ◌∷◌, ◌++◌, map, Option, Some, None, refl, sym, ap, ◌∙◌, subst, arith}
use Rattle.std.specs.Prelude.{◌==◌, ◌&&◌, ◌||◌, nat_lt, nat_eq, if◌then◌else◌, option_map, slice_index_or, slice_set}
use Rattle.std.proofs.lemmas.List.{map-append, get_or-set_other}
use Rattle.std.proofs.lemmas.Bool.{eqb-true, eqb-false, eq-eqb, ltb-true, ltb-false}
use Rattle.vba_values.specs.declared.object.ObjRef.{ObjRef}
use Rattle.vba_values.specs.Val.{Val, empty, object}
use Rattle.vba_values.specs.Objects.{same_object}
use Rattle.vba_events.specs.declared.linked.Linked.{Linked}
use Rattle.vba_events.specs.Links.{same_link, links_of, stands}
use Rattle.vba_events.specs.Order.{insert_link, in_order}
use Rattle.bound_project.specs.Project.{Declarations, class_at}
use Rattle.vba_meaning.specs.Memory.{Object, object_or, Memory, object_at}
use Rattle.vba_meaning.specs.Events.{source_of, link_of, links_in, links_from, links, sinks, handler_in, due}
use Rattle.object_names.specs.Names.{reference_named, value_named, object_named, link_named, under}
use Rattle.object_names.specs.Renamed.{Matches, at_number, times_set, numbers_of, HasNumber, Keyed, Fit, Same}
use Rattle.object_names.proofs.NamedValues.{equal_named, same_object_named}
use Rattle.object_names.proofs.NamedVariables.{object_at_same}
use Rattle.object_names.proofs.NamedItems.{nth_map}
use Rattle.object_names.proofs.NamedLooks.{Part, next_part, none_left, first_place, whole_part, set_none}

-- ---- links that are put in order

abbrev insert_all : List Linked → List Linked → List Linked
insert_all [] ls = ls
insert_all (x ∷ xs) ls = insert_link x (insert_all xs ls)

order_all : (xs ys : List Linked) → in_order (xs ++ ys) ≡ insert_all xs (in_order ys)
order_all [] ys = refl
order_all (x ∷ xs) ys = ap (insert_link x) (order_all xs ys)

skip : (x l : Linked) (ls : List Linked) → nat_lt x.number l.number ≡ false → insert_link x (l ∷ ls) ≡ l ∷ insert_link x ls
skip x l ls e = ap (λ b. cond b (x ∷ l ∷ ls) (l ∷ insert_link x ls)) e

stop : (x l : Linked) (ls : List Linked) → nat_lt x.number l.number ≡ true → insert_link x (l ∷ ls) ≡ x ∷ l ∷ ls
stop x l ls e = ap (λ b. cond b (x ∷ l ∷ ls) (l ∷ insert_link x ls)) e

not_less : (a b : ℕ) → b < a → nat_lt a b ≡ false
not_less a b lt = by_test (nat_lt a b) refl where
  by_test : (t : Bool) → nat_lt a b ≡ t → t ≡ false
  by_test true e = absurd (omega (arith, ltb-true a b e, lt))
  by_test false e = refl

-- the lesser one comes first, whichever is put in first
lesser : (x y : Linked) (ls : List Linked) → x.number < y.number → nat_lt x.number y.number ≡ true → insert_link x (insert_link y ls) ≡ insert_link y (insert_link x ls)
lesser x y [] lt e = stop x y [] e ∙ sym (skip y x [] (not_less y.number x.number lt))
lesser x y (l ∷ ls) lt e = by_tests (nat_lt x.number l.number) (nat_lt y.number l.number) refl refl (lesser x y ls lt e) where
  by_tests : (a b : Bool) → nat_lt x.number l.number ≡ a → nat_lt y.number l.number ≡ b → insert_link x (insert_link y ls) ≡ insert_link y (insert_link x ls) → insert_link x (insert_link y (l ∷ ls)) ≡ insert_link y (insert_link x (l ∷ ls))
  by_tests true true p q more =
      ap (insert_link x) (stop y l ls q) ∙ stop x y (l ∷ ls) e ∙ sym (ap (insert_link y) (stop x l ls p) ∙ skip y x (l ∷ ls) (not_less y.number x.number lt) ∙ ap (λ ks. x ∷ ks) (stop y l ls q))
  by_tests true false p q more =
      ap (insert_link x) (skip y l ls q) ∙ stop x l (insert_link y ls) p ∙ sym (ap (insert_link y) (stop x l ls p) ∙ skip y x (l ∷ ls) (not_less y.number x.number lt) ∙ ap (λ ks. x ∷ ks) (skip y l ls q))
  by_tests false true p q more = absurd (omega (arith, ltb-false x.number l.number p, ltb-true y.number l.number q, lt))
  by_tests false false p q more =
      ap (insert_link x) (skip y l ls q) ∙ skip x l (insert_link y ls) p ∙ ap (λ ks. l ∷ ks) more ∙ sym (ap (insert_link y) (skip x l ls p) ∙ skip y l (insert_link x ls) q)

swapped : (x y : Linked) (ls : List Linked) → (x.number ≡ y.number → ⊥) → insert_link x (insert_link y ls) ≡ insert_link y (insert_link x ls)
swapped x y ls h = by_test (nat_lt x.number y.number) refl (nat_lt y.number x.number) refl where
  by_test : (a : Bool) → nat_lt x.number y.number ≡ a → (b : Bool) → nat_lt y.number x.number ≡ b → insert_link x (insert_link y ls) ≡ insert_link y (insert_link x ls)
  by_test true e b f = lesser x y ls (ltb-true x.number y.number e) e
  by_test false e true f = sym (lesser y x ls (ltb-true y.number x.number f) f)
  by_test false e false f = absurd (h (omega (arith, ltb-false x.number y.number e, ltb-false y.number x.number f)))

abbrev Apart : Linked → List Linked → Type 0
Apart x [] = Unit {0}
Apart x (y ∷ ys) = (x.number ≡ y.number → ⊥) × Apart x ys

abbrev AllApart : List Linked → List Linked → Type 0
AllApart [] ys = Unit {0}
AllApart (x ∷ xs) ys = Apart x ys × AllApart xs ys

swap_one : (x : Linked) (ys ls : List Linked) → Apart x ys → insert_link x (insert_all ys ls) ≡ insert_all ys (insert_link x ls)
swap_one x [] ls h = refl
swap_one x (y ∷ ys) ls h = swapped x y (insert_all ys ls) h.0 ∙ ap (insert_link y) (swap_one x ys ls h.1)

swap_all : (xs ys ls : List Linked) → AllApart xs ys → insert_all xs (insert_all ys ls) ≡ insert_all ys (insert_all xs ls)
swap_all [] ys ls h = refl
swap_all (x ∷ xs) ys ls h = ap (insert_link x) (swap_all xs ys ls h.1) ∙ swap_one x ys (insert_all xs ls) h.0

-- ---- the links of one object

abbrev own_at : ℕ → Option Object → List Linked
own_at n None = []
own_at n (Some b) = links_in n b b.set_numbers

-- numbers of two objects
abbrev Distinct : List (ℕ × Option ℕ) → List (ℕ × Option ℕ) → Type 0
Distinct es fs = (i j x : ℕ) → 0 < times_set es i x → 0 < times_set fs j x → ⊥

own_first : (i x : ℕ) (es : List (ℕ × Option ℕ)) → 0 < times_set ((i, Some x) ∷ es) i x
own_first i x es =
    let a : (i == i) ≡ true = eq-eqb i i refl in
    let b : (x == x) ≡ true = eq-eqb x x refl in
    subst (λ t. 0 < (if t && (x == x) then 1 else 0) + times_set es i x) (sym a) (subst (λ t. 0 < (if t then 1 else 0) + times_set es i x) (sym b) (omega arith))

one_apart : (k n x i : ℕ) (l : Linked) (b : Object) (es : List (ℕ × Option ℕ)) → l.number ≡ x → ((j : ℕ) → 0 < times_set es j x → ⊥) → Apart l (links_in n b es)
one_apart k n x i l b [] e h = tt
one_apart k n x i l b ((j, None) ∷ es) e h = one_apart k n x i l b es e (λ q lt. h q (omega (arith, lt, times_more q j None es)))
  where
    times_more : (q p : ℕ) (y : Option ℕ) (fs : List (ℕ × Option ℕ)) → times_set ((p, None) ∷ fs) q x ≡ (if (p == q) && false then 1 else 0) + times_set fs q x
    times_more q p y fs = refl
one_apart k n x i l b ((j, Some y) ∷ es) e h = (λ same. h j (subst (λ z. 0 < times_set ((j, Some z) ∷ es) j x) (sym e ∙ same) (own_first j x es)), one_apart k n x i l b es e (λ q lt. h q (omega (arith, lt))))

all_apart : (k n : ℕ) (b c : Object) (es fs : List (ℕ × Option ℕ)) → Distinct es fs → AllApart (links_in k b es) (links_in n c fs)
all_apart k n b c [] fs h = tt
all_apart k n b c ((j, None) ∷ es) fs h = all_apart k n b c es fs (λ i q x lt mt. h i q x (omega (arith, lt)) mt)
all_apart k n b c ((j, Some y) ∷ es) fs h =
    (one_apart k n y j (record { source = source_of (slice_index_or b.fields j empty); sink = record { 0 = k }; field = j; number = y }) c fs refl (λ q mt. h j q y (own_first j y es) mt), all_apart k n b c es fs (λ i q x lt mt. h i q x (omega (arith, lt)) mt))

-- without one object the links are those of the others, into which its own are put
links_without : (j p n : ℕ) (cs : List (Option Object)) → n ≡ j + p → ((a b : ℕ) → (a ≡ b → ⊥) → Distinct (numbers_of cs a) (numbers_of cs b))
    → in_order (links_from j cs) ≡ insert_all (own_at n (at_number cs p)) (in_order (links_from j (slice_set cs p None)))
links_without j zero n [] e h = refl
links_without j (suc p) n [] e h = refl
links_without j zero n (None ∷ cs) e h = refl
links_without j zero n (Some c ∷ cs) e h =
    let is : n ≡ j = omega (arith, e) in
    subst (λ q. in_order (links_in j c c.set_numbers ++ links_from (suc j) cs) ≡ insert_all (links_in q c c.set_numbers) (in_order (links_from (suc j) cs))) (sym is) (order_all (links_in j c c.set_numbers) (links_from (suc j) cs))
links_without j (suc p) n (None ∷ cs) e h = links_without (suc j) p n cs (omega (arith, e)) (λ a b other. h (suc a) (suc b) (λ f. other (omega (arith, f))))
links_without j (suc p) n (Some c ∷ cs) e h =
    order_all (links_in j c c.set_numbers) (links_from (suc j) cs)
    ∙ ap (insert_all (links_in j c c.set_numbers)) (links_without (suc j) p n cs (omega (arith, e)) (λ a b other. h (suc a) (suc b) (λ f. other (omega (arith, f)))))
    ∙ swap_all (links_in j c c.set_numbers) (own_at n (at_number cs p)) (in_order (links_from (suc j) (slice_set cs p None))) (by_object (at_number cs p) refl)
    ∙ ap (insert_all (own_at n (at_number cs p))) (sym (order_all (links_in j c c.set_numbers) (links_from (suc j) (slice_set cs p None))))
  where
    nothing : (xs : List Linked) → AllApart xs []
    nothing [] = tt
    nothing (x ∷ xs) = (tt, nothing xs)

    by_object : (x : Option Object) → at_number cs p ≡ x → AllApart (links_in j c c.set_numbers) (own_at n x)
    by_object None f = nothing (links_in j c c.set_numbers)
    by_object (Some b) f = all_apart j n c b c.set_numbers b.set_numbers (λ i q x lt mt. h 0 (suc p) (λ g. absurd (omega (arith, g))) i q x lt (subst (λ y. 0 < times_set (object_or y).set_numbers q x) (sym f) mt))

no_links : (j : ℕ) (cs : List (Option Object)) → ((n : ℕ) → at_number cs n ≡ None) → links_from j cs ≡ []
no_links j [] h = refl
no_links j (None ∷ cs) h = no_links (suc j) cs (λ n. h (suc n))
no_links j (Some c ∷ cs) h = absurd (let no : Some c ≡ None = h 0 in cc)

module _ (r : ℕ → ℕ) where
  abbrev nl : List Linked → List Linked
  nl ls = map (λ l. link_named r l) ls

  source_named : (v : Val) → source_of (value_named r v) ≡ reference_named r (source_of v)
  source_named (object o) = refl
  source_named v = refl

  one_link : (o : ℕ) (b : Object) (i : ℕ) (x : Option ℕ) → link_of (r o) (object_named r b) i x ≡ nl (link_of o b i x)
  one_link o b i None = refl
  one_link o b i (Some x) =
      ap (λ s. record { source = s; sink = record { 0 = r o }; field = i; number = x } ∷ []) (ap (λ v. source_of v) (nth_map (λ v. value_named r v) b.fields i empty) ∙ source_named (slice_index_or b.fields i empty))

  own_links : (o : ℕ) (b : Object) (es : List (ℕ × Option ℕ)) → links_in (r o) (object_named r b) es ≡ nl (links_in o b es)
  own_links o b [] = refl
  own_links o b (e ∷ es) =
      ap (λ ls. ls ++ links_in (r o) (object_named r b) es) (one_link o b e.0 e.1) ∙ ap (λ ls. nl (link_of o b e.0 e.1) ++ ls) (own_links o b es) ∙ sym (map-append (λ l. link_named r l) (link_of o b e.0 e.1) (links_in o b es))

  own_named : (o : ℕ) (x : Option Object) → own_at (r o) (option_map (λ b. object_named r b) x) ≡ nl (own_at o x)
  own_named o None = refl
  own_named o (Some b) = own_links o b b.set_numbers

  insert_named : (l : Linked) (ls : List Linked) → insert_link (link_named r l) (nl ls) ≡ nl (insert_link l ls)
  insert_named l [] = refl
  insert_named l (x ∷ ls) = by_test (nat_lt l.number x.number) (insert_named l ls) where
    by_test : (b : Bool) → insert_link (link_named r l) (nl ls) ≡ nl (insert_link l ls)
        → cond b (link_named r l ∷ link_named r x ∷ nl ls) (link_named r x ∷ insert_link (link_named r l) (nl ls)) ≡ nl (cond b (l ∷ x ∷ ls) (x ∷ insert_link l ls))
    by_test true h = refl
    by_test false h = ap (λ ks. link_named r x ∷ ks) h

  all_named : (xs ls : List Linked) → insert_all (nl xs) (nl ls) ≡ nl (insert_all xs ls)
  all_named [] ls = refl
  all_named (x ∷ xs) ls = ap (insert_link (link_named r x)) (all_named xs ls) ∙ insert_named x (insert_all xs ls)

  first_links : (k : ℕ) (b : Option Object) (bs : List (Option Object)) → in_order (links_from k (b ∷ bs)) ≡ insert_all (own_at k b) (in_order (links_from (suc k) bs))
  first_links k None bs = refl
  first_links k (Some b) bs = order_all (links_in k b b.set_numbers) (links_from (suc k) bs)

  module _ (once : (a b : ℕ) → r a ≡ r b → a ≡ b) where
    abbrev AllDistinct : List (Option Object) → Type 0
    AllDistinct cs = (a b : ℕ) → (a ≡ b → ⊥) → Distinct (numbers_of cs a) (numbers_of cs b)

    -- where one has gone
    still_distinct : (cs : List (Option Object)) (p : ℕ) → AllDistinct cs → AllDistinct (slice_set cs p None)
    still_distinct cs p h a b other i j x lt mt = h a b other i j x (still a i x lt) (still b j x mt) where
      still : (n i x : ℕ) → 0 < times_set (numbers_of (slice_set cs p None) n) i x → 0 < times_set (numbers_of cs n) i x
      still n i x lt = by_test (n == p) refl where
        by_test : (t : Bool) → (n == p) ≡ t → 0 < times_set (numbers_of cs n) i x
        by_test true e =
            let none : numbers_of (slice_set cs p None) n ≡ [] = ap (λ q. numbers_of (slice_set cs p None) q) (eqb-true n p e) ∙ ap (λ y. (object_or y).set_numbers) (set_none r once cs p) in
            absurd (let no : 0 < times_set [] i x = subst (λ es. 0 < times_set es i x) none lt in omega (arith, no))
        by_test false e = subst (λ es. 0 < times_set es i x) (ap (λ y. (object_or y).set_numbers) (get_or-set_other cs p n None None (eqb-false n p e))) lt

    part_links : (k : ℕ) (bs cs : List (Option Object)) → Part r once k bs cs → AllDistinct cs → in_order (links_from 0 cs) ≡ nl (in_order (links_from k bs))
    part_links k [] cs h d = ap in_order (no_links 0 cs (none_left r once h))
    part_links k (b ∷ bs) cs h d =
        links_without 0 (r k) (r k) cs (omega arith) d
        ∙ ap (λ x. insert_all (own_at (r k) x) (in_order (links_from 0 (slice_set cs (r k) None)))) (first_place r once h)
        ∙ ap (λ xs. insert_all xs (in_order (links_from 0 (slice_set cs (r k) None)))) (own_named k b)
        ∙ ap (insert_all (nl (own_at k b))) (part_links (suc k) bs (slice_set cs (r k) None) (next_part r once h) (still_distinct cs (r k) d))
        ∙ all_named (own_at k b) (in_order (links_from (suc k) bs)) ∙ ap (λ ls. nl ls) (sym (first_links k b bs))

    -- no two objects have the same number of a Set
    distinct_named : (bs cs : List (Option Object)) (next : ℕ) → Matches r bs cs → Keyed bs next → AllDistinct cs
    distinct_named bs cs next k u a b other i j x lt mt = by_object i a lt (λ o e f. by_object j b mt (λ p g h. other (sym e ∙ ap r ((u.once o p i j x f h).0) ∙ g))) where
      numbers : (o : ℕ) → numbers_of cs (r o) ≡ numbers_of bs o
      numbers o = ap (λ y. (object_or y).set_numbers) (k.same o) ∙ of_named (at_number bs o) where
        of_named : (y : Option Object) → (object_or (option_map (λ b. object_named r b) y)).set_numbers ≡ (object_or y).set_numbers
        of_named None = refl
        of_named (Some b) = refl

      by_object : {X : Type 0} (q n : ℕ) → 0 < times_set (numbers_of cs n) q x → ((o : ℕ) → r o ≡ n → HasNumber bs o q x → X) → X
      by_object {X = X} q n has go = by_there (at_number cs n) refl where
        by_there : (y : Option Object) → at_number cs n ≡ y → X
        by_there None e = absurd (let no : 0 < times_set [] q x = subst (λ z. 0 < times_set (object_or z).set_numbers q x) e has in omega (arith, no))
        by_there (Some c) e =
            let at = k.onto n c e in
            go at.0 at.1 (subst (λ es. 0 < times_set es q x) (numbers at.0) (subst (λ m. 0 < times_set (numbers_of cs m) q x) (sym at.1) has))

    links_here : (m : Memory) (cs : List (Option Object)) → Fit r m cs → links (under r m cs) ≡ nl (links m)
    links_here m cs k = part_links 0 m.objects cs (whole_part r once k.matches) (distinct_named m.objects cs m.next_set k.matches k.keyed)

    of_source : (s : ObjRef) (ls : List Linked) → links_of (reference_named r s) (nl ls) ≡ nl (links_of s ls)
    of_source s [] = refl
    of_source s (l ∷ ls) =
        ap (λ b. cond b (link_named r l ∷ links_of (reference_named r s) (nl ls)) (links_of (reference_named r s) (nl ls))) (same_object_named r once s l.source) ∙ by_test (same_object s l.source) (of_source s ls) where
          by_test : (b : Bool) → links_of (reference_named r s) (nl ls) ≡ nl (links_of s ls)
              → cond b (link_named r l ∷ links_of (reference_named r s) (nl ls)) (links_of (reference_named r s) (nl ls)) ≡ nl (cond b (l ∷ links_of s ls) (links_of s ls))
          by_test true h = ap (λ ks. link_named r l ∷ ks) h
          by_test false h = h

    same_link_named : (a b : Linked) → same_link (link_named r a) (link_named r b) ≡ same_link a b
    same_link_named a b =
        ap (λ t. t && ((nat_eq (r a.sink.0) (r b.sink.0) && nat_eq a.field b.field) && nat_eq a.number b.number)) (same_object_named r once a.source b.source)
        ∙ ap (λ t. same_object a.source b.source && ((t && nat_eq a.field b.field) && nat_eq a.number b.number)) (equal_named r once a.sink.0 b.sink.0)

    stands_named : (l : Linked) (ls : List Linked) → stands (link_named r l) (nl ls) ≡ stands l ls
    stands_named l [] = refl
    stands_named l (x ∷ ls) = ap (λ b. b || stands (link_named r l) (nl ls)) (same_link_named l x) ∙ ap (λ b. same_link l x || b) (stands_named l ls)

  pub links_same : {m n : Memory} → Same r m n → links n ≡ nl (links m)
  links_same {m = m} k = ap (λ x. links x) k.is ∙ links_here k.fit.matches.once m k.objects k.fit

  pub sinks_same : {m n : Memory} (s : ObjRef) → Same r m n → sinks (reference_named r s) n ≡ nl (sinks s m)
  sinks_same {m = m} s k = ap (links_of (reference_named r s)) (links_same k) ∙ of_source k.fit.matches.once s (links m)

  pub due_same : {m n : Memory} (d : Declarations) (e : ℕ) (l : Linked) → Same r m n → due d e (link_named r l) n ≡ due d e l m
  due_same {m = m} {n = n} d e l k =
      ap (λ b. if b then handler_in (class_at d (object_at n (r l.sink.0)).class).handlers l.field e else None) (ap (stands (link_named r l)) (links_same k) ∙ stands_named k.fit.matches.once l (links m))
      ∙ ap (λ c. if stands l (links m) then handler_in (class_at d c.class).handlers l.field e else None) (object_at_same r l.sink.0 k)
