-- Lists of objects under other names, and the numbers of Sets that objects have.
use Rattle.std.proofs.Common.{◌≡◌, ℕ, zero, suc, ◌+◌, ◌<◌, Bool, true, false, List, [], ◌∷◌, ◌++◌, length, map, Option, Some, None, refl, sym, ap, ◌∙◌, subst, arith}
use Rattle.std.specs.Prelude.{◌==◌, ◌-◌, ◌&&◌, nat_lt, if◌then◌else◌, option_map, slice_set}
use Rattle.std.proofs.lemmas.Bool.{eqb-true, eq-eqb, ltb-true, ltb-false}
use Rattle.std.proofs.lemmas.List.{get_or-set_other, get_or-set_same, get_or_append_left, length-set}
use Rattle.bound_project.specs.Project.{Declarations, class_at}
use Rattle.vba_meaning.specs.Memory.{Object, object_or}
use Rattle.vba_meaning.specs.Effects.{renumbered}
use Rattle.vba_meaning.specs.Objects.{new_instance}
use Rattle.object_names.specs.Names.{object_named}
use Rattle.object_names.specs.Renamed.{Matches, at_number, is_number, times_set, numbers_of, HasNumber, Keyed}

-- ---- objects by number

-- the number so many behind the last one
abbrev pub past : List (Option Object) → ℕ → ℕ
past [] j = j
past (b ∷ bs) j = suc (past bs j)

pub past_is : (bs : List (Option Object)) (j : ℕ) → past bs j ≡ length bs + j
past_is [] j = omega arith
past_is (b ∷ bs) j = omega (arith, past_is bs j)

-- there is none
pub none_behind : (bs : List (Option Object)) (j : ℕ) → at_number bs (past bs j) ≡ None
none_behind [] zero = refl
none_behind [] (suc j) = refl
none_behind (b ∷ bs) j = none_behind bs j

set_behind : (bs : List (Option Object)) (j : ℕ) (x : Option Object) → slice_set bs (past bs j) x ≡ bs
set_behind [] zero x = refl
set_behind [] (suc j) x = refl
set_behind (b ∷ bs) j x = ap (λ cs. b ∷ cs) (set_behind bs j x)

-- a number is within, or so many behind
pub by_place : {X : Type 0} (bs : List (Option Object)) (o : ℕ) → (o < length bs → X) → ((j : ℕ) → o ≡ past bs j → X) → X
by_place {X = X} bs o f g = by_test (nat_lt o (length bs)) refl where
  by_test : (b : Bool) → nat_lt o (length bs) ≡ b → X
  by_test true e = f (ltb-true o (length bs) e)
  by_test false e = g (o - length bs) (omega (arith, ltb-false o (length bs) e, past_is bs (o - length bs)))

module _ (r : ℕ → ℕ) where
  -- ---- an object is put where one was

  next_past : {bs cs : List (Option Object)} → Matches r bs cs → (j : ℕ) → r (past bs j) ≡ past cs j
  next_past {bs = bs} {cs = cs} k j = ap r (past_is bs j) ∙ k.next j ∙ sym (past_is cs j)

  put_at_place : {bs cs : List (Option Object)} (o : ℕ) (x : Option Object) → Matches r bs cs → at_number (slice_set cs (r o) (option_map (λ b. object_named r b) x)) (r o) ≡ option_map (λ b. object_named r b) (at_number (slice_set bs o x) o)
  put_at_place {bs = bs} {cs = cs} o x k = by_place bs o
      (λ lt. get_or-set_same cs (r o) (option_map (λ b. object_named r b) x) None (k.inside o lt) ∙ ap (λ y. option_map (λ b. object_named r b) y) (sym (get_or-set_same bs o x None lt)))
      (λ j e. (let f : r o ≡ past cs j = ap r e ∙ next_past k j in
      ap (λ n. at_number (slice_set cs n (option_map (λ b. object_named r b) x)) n) f ∙ ap (λ ds. at_number ds (past cs j)) (set_behind cs j (option_map (λ b. object_named r b) x)) ∙ none_behind cs j
      ∙ sym (ap (λ n. option_map (λ b. object_named r b) (at_number (slice_set bs n x) n)) e ∙ ap (λ ds. option_map (λ b. object_named r b) (at_number ds (past bs j))) (set_behind bs j x)
      ∙ ap (λ y. option_map (λ b. object_named r b) y) (none_behind bs j))))

  pub matches_put : {bs cs : List (Option Object)} (o : ℕ) (x : Option Object) → Matches r bs cs → Matches r (slice_set bs o x) (slice_set cs (r o) (option_map (λ b. object_named r b) x))
  matches_put {bs = bs} {cs = cs} o x k = record {
    once = k.once;
    first = k.first;
    same = λ q. at q (q == o) refl;
    onto = λ n b e. of n b e (n == r o) refl;
    inside = λ q lt. omega (arith, length-set cs (r o) (option_map (λ b. object_named r b) x), k.inside q (omega (arith, length-set bs o x, lt)));
    next = λ j. ap (λ n. r (n + j)) (length-set bs o x) ∙ k.next j ∙ ap (λ n. n + j) (sym (length-set cs (r o) (option_map (λ b. object_named r b) x)));
  } where
    at : (q : ℕ) (t : Bool) → (q == o) ≡ t → at_number (slice_set cs (r o) (option_map (λ b. object_named r b) x)) (r q) ≡ option_map (λ b. object_named r b) (at_number (slice_set bs o x) q)
    at q true e =
        let f : q ≡ o = eqb-true q o e in
        ap (λ n. at_number (slice_set cs (r o) (option_map (λ b. object_named r b) x)) (r n)) f ∙ put_at_place o x k ∙ ap (λ n. option_map (λ b. object_named r b) (at_number (slice_set bs o x) n)) (sym f)
    at q false e =
        let apart : q ≡ o → ⊥ = λ f. (let no : true ≡ false = sym (eq-eqb q o f) ∙ e in absurd cc) in
        get_or-set_other cs (r o) (r q) (option_map (λ b. object_named r b) x) None (λ f. apart (k.once q o f)) ∙ k.same q ∙ ap (λ y. option_map (λ b. object_named r b) y) (sym (get_or-set_other bs o q x None apart))

    of : (n : ℕ) (b : Object) → at_number (slice_set cs (r o) (option_map (λ b. object_named r b) x)) n ≡ Some b → (t : Bool) → (n == r o) ≡ t → (q : ℕ) × (r q ≡ n)
    of n b e true f = (o, sym (eqb-true n (r o) f))
    of n b e false f =
        k.onto n b (sym (get_or-set_other cs (r o) n (option_map (λ b. object_named r b) x) None (λ g. (let no : true ≡ false = sym (eq-eqb n (r o) g) ∙ f in absurd cc))) ∙ e)

  -- ---- an object more

  more_at : (bs : List (Option Object)) (x : Option Object) → at_number (bs ++ x ∷ []) (length bs) ≡ x
  more_at [] x = refl
  more_at (b ∷ bs) x = more_at bs x

  more_behind : (bs : List (Option Object)) (x : Option Object) (j : ℕ) → at_number (bs ++ x ∷ []) (past bs (suc j)) ≡ None
  more_behind [] x zero = refl
  more_behind [] x (suc j) = refl
  more_behind (b ∷ bs) x j = more_behind bs x j

  one_longer : (bs : List (Option Object)) (x : Option Object) → length (bs ++ x ∷ []) ≡ length bs + 1
  one_longer [] x = refl
  one_longer (b ∷ bs) x = omega (arith, one_longer bs x)

  pub next_name : {bs cs : List (Option Object)} → Matches r bs cs → r (length bs) ≡ length cs
  next_name {bs = bs} {cs = cs} k =
      let e : length bs ≡ length bs + 0 = omega arith in
      let f : length cs + 0 ≡ length cs = omega arith in
      ap r e ∙ k.next 0 ∙ f

  pub matches_more : {bs cs : List (Option Object)} (b : Object) → Matches r bs cs → Matches r (bs ++ Some b ∷ []) (cs ++ Some (object_named r b) ∷ [])
  matches_more {bs = bs} {cs = cs} b k = record {
    once = k.once;
    first = k.first;
    same = λ q. by_place bs q (λ lt. within q lt) (λ j e. behind q j e);
    onto = λ n c e. by_place cs n
        (λ lt. k.onto n c (sym (get_or_append_left cs (Some (object_named r b) ∷ []) None n lt) ∙ e))
        (λ j f. (past bs j, next_past k j ∙ sym f));
    inside = λ q lt. by_place bs q
        (λ less. omega (arith, k.inside q less, one_longer cs (Some (object_named r b))))
        (λ j e. (let z : j ≡ 0 = omega (arith, lt, e, past_is bs j, one_longer bs (Some b)) in
        omega (arith, ap r e ∙ next_past k j, past_is cs j, z, one_longer cs (Some (object_named r b)))));
    next = λ j. (let e : length (bs ++ Some b ∷ []) + j ≡ length bs + suc j = omega (arith, one_longer bs (Some b)) in
        let f : length cs + suc j ≡ length (cs ++ Some (object_named r b) ∷ []) + j = omega (arith, one_longer cs (Some (object_named r b))) in
        ap r e ∙ k.next (suc j) ∙ f);
  } where
    within : (q : ℕ) → q < length bs → at_number (cs ++ Some (object_named r b) ∷ []) (r q) ≡ option_map (λ c. object_named r c) (at_number (bs ++ Some b ∷ []) q)
    within q lt = get_or_append_left cs (Some (object_named r b) ∷ []) None (r q) (k.inside q lt) ∙ k.same q ∙ ap (λ y. option_map (λ c. object_named r c) y) (sym (get_or_append_left bs (Some b ∷ []) None q lt))

    behind : (q j : ℕ) → q ≡ past bs j → at_number (cs ++ Some (object_named r b) ∷ []) (r q) ≡ option_map (λ c. object_named r c) (at_number (bs ++ Some b ∷ []) q)
    behind q zero e =
        let f : q ≡ length bs = omega (arith, e, past_is bs 0) in
        ap (λ n. at_number (cs ++ Some (object_named r b) ∷ []) n) (ap r f ∙ next_name k) ∙ more_at cs (Some (object_named r b))
        ∙ sym (ap (λ n. option_map (λ c. object_named r c) (at_number (bs ++ Some b ∷ []) n)) f ∙ ap (λ y. option_map (λ c. object_named r c) y) (more_at bs (Some b)))
    behind q (suc j) e =
        ap (λ n. at_number (cs ++ Some (object_named r b) ∷ []) n) (ap r e ∙ next_past k (suc j)) ∙ more_behind cs (Some (object_named r b)) j
        ∙ sym (ap (λ n. option_map (λ c. object_named r c) (at_number (bs ++ Some b ∷ []) n)) e ∙ ap (λ y. option_map (λ c. object_named r c) y) (more_behind bs (Some b) j))

-- ---- the numbers of Sets

-- where no number changes
pub keyed_by : {bs ds : List (Option Object)} {next : ℕ} → ((o i n : ℕ) → HasNumber ds o i n → HasNumber bs o i n) → Keyed bs next → Keyed ds next
keyed_by h k = record { below = λ o i n a. k.below o i n (h o i n a); once = λ o p i j n a c. k.once o p i j n (h o i n a) (h p j n c) }

-- another object, with these numbers
put_numbers : {X : Type 0} (bs : List (Option Object)) (o : ℕ) (x : Option Object) (q : ℕ)
    → (q ≡ o → numbers_of (slice_set bs o x) q ≡ (object_or x).set_numbers → X) → ((q ≡ o → ⊥) → numbers_of (slice_set bs o x) q ≡ numbers_of bs q → X) → (numbers_of (slice_set bs o x) q ≡ [] → X) → X
put_numbers {X = X} bs o x q f g h = by_test (q == o) refl where
  by_test : (t : Bool) → (q == o) ≡ t → X
  by_test false e =
      let apart : q ≡ o → ⊥ = λ same. (let no : true ≡ false = sym (eq-eqb q o same) ∙ e in absurd cc) in
      g apart (ap (λ y. (object_or y).set_numbers) (get_or-set_other bs o q x None apart))
  by_test true e =
      let same : q ≡ o = eqb-true q o e in
      by_place bs o
      (λ lt. f same (ap (λ n. numbers_of (slice_set bs o x) n) same ∙ ap (λ y. (object_or y).set_numbers) (get_or-set_same bs o x None lt)))
      (λ j is. h (ap (λ n. numbers_of (slice_set bs o x) n) (same ∙ is) ∙ ap (λ n. numbers_of (slice_set bs n x) (past bs j)) is ∙ ap (λ ds. numbers_of ds (past bs j)) (set_behind bs j x)
      ∙ ap (λ y. (object_or y).set_numbers) (none_behind bs j)))

pub keyed_put : {bs : List (Option Object)} {next : ℕ} (o : ℕ) (x : Option Object) → (object_or x).set_numbers ≡ numbers_of bs o → Keyed bs next → Keyed (slice_set bs o x) next
keyed_put {bs = bs} o x e k = keyed_by (λ q i n a. put_numbers bs o x q
    (λ same is. subst (λ es. 0 < times_set es i n) (is ∙ e ∙ ap (λ p. numbers_of bs p) (sym same)) a)
    (λ apart is. subst (λ es. 0 < times_set es i n) is a)
    (λ is. absurd (let no : 0 < times_set [] i n = subst (λ es. 0 < times_set es i n) is a in omega (arith, no)))) k

-- an object that is gone has none
pub keyed_gone : {bs : List (Option Object)} {next : ℕ} (o : ℕ) → Keyed bs next → Keyed (slice_set bs o None) next
keyed_gone {bs = bs} o k = keyed_by (λ q i n a. put_numbers bs o None q
    (λ same is. absurd (let no : 0 < times_set [] i n = subst (λ es. 0 < times_set es i n) is a in omega (arith, no)))
    (λ apart is. subst (λ es. 0 < times_set es i n) is a)
    (λ is. absurd (let no : 0 < times_set [] i n = subst (λ es. 0 < times_set es i n) is a in omega (arith, no)))) k

-- nor has a new one
none_yet : (is : List ℕ) (i n : ℕ) → times_set (map (λ i. (i, None)) is) i n ≡ 0
none_yet [] i n = refl
none_yet (j ∷ is) i n = both (j == i) (none_yet is i n) where
  both : (t : Bool) → times_set (map (λ i. (i, None)) is) i n ≡ 0 → (if t && false then 1 else 0) + times_set (map (λ i. (i, None)) is) i n ≡ 0
  both true e = omega (arith, e)
  both false e = omega (arith, e)

new_has_none : (d : Declarations) (c : ℕ) (bs : List (Option Object)) (q i n : ℕ) → HasNumber (bs ++ Some (new_instance d c) ∷ []) q i n → HasNumber bs q i n
new_has_none d c [] zero i n a = absurd (omega (arith, none_yet (class_at d c).with_events i n, a))
new_has_none d c [] (suc q) i n a = a
new_has_none d c (b ∷ bs) zero i n a = a
new_has_none d c (b ∷ bs) (suc q) i n a = new_has_none d c bs q i n a

pub keyed_more : {bs : List (Option Object)} {next : ℕ} (d : Declarations) (c : ℕ) → Keyed bs next → Keyed (bs ++ Some (new_instance d c) ∷ []) next
keyed_more {bs = bs} d c k = keyed_by (λ q i n a. new_has_none d c bs q i n a) k

-- a variable has another number: of those that stood, or the new one
renumbered_times : {X : Type 0} (es : List (ℕ × Option ℕ)) (j : ℕ) (number : Option ℕ) (i n : ℕ) → 0 < times_set (renumbered j number es) i n → (0 < times_set es i n → X) → (i ≡ j → number ≡ Some n → X) → X
renumbered_times [] j number i n a f g = absurd (omega (arith, a))
renumbered_times {X = X} (e ∷ es) j number i n a f g =
    by_field (e.0 == j) (e.0 == i) refl refl (nat_lt 0 (times_set (renumbered j number es) i n)) refl a
    (λ h. renumbered_times es j number i n h (λ b. f (omega (arith, b))) g) where
      is_some : (x : Option ℕ) → is_number n x ≡ true → x ≡ Some n
      is_some None e = absurd cc
      is_some (Some m) e = ap (λ k. Some k) (eqb-true m n e)

      by_number : (x : Option ℕ) (t : Bool) → is_number n x ≡ t → i ≡ j → x ≡ number → (more : ℕ) → 0 < (if true && t then 1 else 0) + more → (0 < more → X) → X
      by_number x true e is same more b h = g is (sym same ∙ is_some x e)
      by_number x false e is same more b h = h (omega (arith, b))

      by_field : (s t : Bool) → (e.0 == j) ≡ s → (e.0 == i) ≡ t → (u : Bool) → nat_lt 0 (times_set (renumbered j number es) i n) ≡ u
          → 0 < (if t && is_number n (if s then number else e.1) then 1 else 0) + times_set (renumbered j number es) i n → (0 < times_set (renumbered j number es) i n → X) → X
      by_field s t p q true v b h = h (ltb-true 0 (times_set (renumbered j number es) i n) v)
      by_field true true p q false v b h =
          by_number number (is_number n number) refl (sym (eqb-true e.0 i q) ∙ eqb-true e.0 j p) refl (times_set (renumbered j number es) i n) b h
      by_field true false p q false v b h = h (omega (arith, b))
      by_field false true p q false v b h =
          f (subst (λ t. 0 < (if t && is_number n e.1 then 1 else 0) + times_set es i n) (sym q) (omega (arith, b, ltb-false 0 (times_set (renumbered j number es) i n) v)))
      by_field false false p q false v b h = h (omega (arith, b))

-- it has the next one, or none
pub keyed_numbered : {bs : List (Option Object)} {next : ℕ} (o j : ℕ) → Keyed bs next → Keyed (slice_set bs o (Some (record (object_or (at_number bs o)) { set_numbers = renumbered j (Some next) (numbers_of bs o) }))) (next + 1)
keyed_numbered {bs = bs} {next = next} o j k = record {
  below = λ q i n a. numbered q i n a (λ b. omega (arith, k.below q i n b)) (λ is at e. omega (arith, e));
  once = λ q p i h n a b. numbered q i n a
      (λ c. numbered p h n b (λ d. k.once q p i h n c d) (λ is at e. absurd (omega (arith, k.below q i n c, e))))
      (λ is at e. numbered p h n b (λ d. absurd (omega (arith, k.below p h n d, e))) (λ is2 at2 e2. (is ∙ sym is2, at ∙ sym at2)));
} where
  x : Option Object
  x = Some (record (object_or (at_number bs o)) { set_numbers = renumbered j (Some next) (numbers_of bs o) })

  some_same : (n : ℕ) → Some next ≡ Some n → n ≡ next
  some_same n e = sym (ap (λ y. or_zero y) e) where
    or_zero : Option ℕ → ℕ
    or_zero None = 0
    or_zero (Some k) = k

  numbered : {X : Type 0} (q i n : ℕ) → HasNumber (slice_set bs o x) q i n → (HasNumber bs q i n → X) → (q ≡ o → i ≡ j → n ≡ next → X) → X
  numbered q i n a f g = put_numbers bs o x q
      (λ same is. renumbered_times (numbers_of bs o) j (Some next) i n (subst (λ es. 0 < times_set es i n) is a) (λ b. f (subst (λ p. HasNumber bs p i n) (sym same) b)) (λ at e. g same at (some_same n e)))
      (λ apart is. f (subst (λ es. 0 < times_set es i n) is a))
      (λ is. absurd (let no : 0 < times_set [] i n = subst (λ es. 0 < times_set es i n) is a in omega (arith, no)))

pub keyed_unset : {bs : List (Option Object)} {next : ℕ} (o j : ℕ) → Keyed bs next → Keyed (slice_set bs o (Some (record (object_or (at_number bs o)) { set_numbers = renumbered j None (numbers_of bs o) }))) next
keyed_unset {bs = bs} o j k = keyed_by (λ q i n a. put_numbers bs o (Some (record (object_or (at_number bs o)) { set_numbers = renumbered j None (numbers_of bs o) })) q
    (λ same is. renumbered_times (numbers_of bs o) j None i n (subst (λ es. 0 < times_set es i n) is a) (λ b. subst (λ p. HasNumber bs p i n) (sym same) b) (λ at e. absurd cc))
    (λ apart is. subst (λ es. 0 < times_set es i n) is a)
    (λ is. absurd (let no : 0 < times_set [] i n = subst (λ es. 0 < times_set es i n) is a in omega (arith, no)))) k
