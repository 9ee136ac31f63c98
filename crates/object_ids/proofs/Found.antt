-- Ids that follow a row of changes are of the objects that are there, each once.
use Rattle.std.proofs.Common.{◌≡◌, ℕ, zero, suc, Bool, true, false, not, List, [], ◌∷◌, ◌++◌, length, Option, Some, None, refl, sym, ap, ◌∙◌, subst}
use Rattle.std.specs.Prelude.{◌==◌, ◌||◌, if◌then◌else◌, is_some, slice_get, slice_index_or, slice_set}
use Rattle.std.proofs.lemmas.Bool.{eqb-true, eqb-false, eq-eqb}
use Rattle.std.proofs.lemmas.List.{get_or-set_other}
use Rattle.vba_values.specs.Val.{Val}
use Rattle.sheet_host.specs.Books.{Sheets}
use Rattle.bound_project.specs.Project.{Declarations, Project}
use Rattle.vba_meaning.specs.Memory.{Memory, Object, object_or, found, without}
use Rattle.vba_meaning.specs.Effects.{is_with_events}
use Rattle.vba_meaning.specs.Meaning.{meaning}
use Rattle.vba_meaning.specs.Objects.{new_instance}
use Rattle.memory_changes.specs.Among.{is_among}
use Rattle.memory_changes.specs.Changes.{Change, aside, takes, connects, disconnects, has_items, makes, has_told, goes, lends, lends_none, lends_again, raise_ends, enters, empties, leaves, keeps, drops, Row, none, first}
use Rattle.memory_changes.proofs.Steps.{meant_row}
use Rattle.object_ids.specs.Stored.{Ids, in_use, GivesFree, with_id, was_made, with_id_if_gone, ids_after, ids_along, AreIds, AreFound, AreMeant}

abbrev at_number : List (Option Object) → ℕ → Option Object
at_number bs o = slice_index_or bs o None

-- ---- what is found

some_value : (x : Option ℕ) → is_some x ≡ true → (i : ℕ) × (x ≡ Some i)
some_value None e = absurd cc
some_value (Some i) e = (i, refl)

some_object : (x : Option Object) → is_some x ≡ true → (b : Object) × (x ≡ Some b)
some_object None e = absurd cc
some_object (Some b) e = (b, refl)

is_found : (x : Option ℕ) (i : ℕ) → x ≡ Some i → is_some x ≡ true
is_found x i e = ap is_some e

is_there : (x : Option Object) (b : Object) → x ≡ Some b → is_some x ≡ true
is_there x b e = ap is_some e

or_zero : Option ℕ → ℕ
or_zero None = 0
or_zero (Some k) = k

same_some : (i j : ℕ) → Some i ≡ Some j → i ≡ j
unfolding or_zero
same_some i j e = ap or_zero e

-- an id that is found is in use
found_used : (ids : Ids) (o i : ℕ) → found ids o ≡ Some i → is_among i (in_use ids) ≡ true
found_used [] o i e = absurd cc
found_used ((k, j) ∷ ids) o i e = by_test (k == o) e (λ f. found_used ids o i f) where
  either : (b : Bool) → is_among i (in_use ids) ≡ true → (b || is_among i (in_use ids)) ≡ true
  either true h = refl
  either false h = h

  by_test : (b : Bool) → (if b then Some j else found ids o) ≡ Some i → (found ids o ≡ Some i → is_among i (in_use ids) ≡ true) → ((j == i) || is_among i (in_use ids)) ≡ true
  by_test true f more = ap (λ b. b || is_among i (in_use ids)) (eq-eqb j i (same_some j i f))
  by_test false f more = either (j == i) (more f)

found_other : (ids : Ids) (k o : ℕ) → (o ≡ k → ⊥) → found (without ids k) o ≡ found ids o
found_other [] k o h = refl
found_other ((n, j) ∷ ids) k o h = by_test (n == k) refl (found_other ids k o h) where
  by_key : (b : Bool) → (n == o) ≡ b → n ≡ k → found ids o ≡ (if b then Some j else found ids o)
  by_key true e same = absurd (h (sym (eqb-true n o e) ∙ same))
  by_key false e same = refl

  by_test : (b : Bool) → (n == k) ≡ b → found (without ids k) o ≡ found ids o → found (if b then without ids k else (n, j) ∷ without ids k) o ≡ (if n == o then Some j else found ids o)
  by_test true e more = more ∙ by_key (n == o) refl (eqb-true n k e)
  by_test false e more = ap (λ x. if n == o then Some j else x) more

found_none : (ids : Ids) (k : ℕ) → found (without ids k) k ≡ None
found_none [] k = refl
found_none ((n, j) ∷ ids) k = by_test (n == k) refl (found_none ids k) where
  by_test : (b : Bool) → (n == k) ≡ b → found (without ids k) k ≡ None → found (if b then without ids k else (n, j) ∷ without ids k) k ≡ None
  by_test true e more = more
  by_test false e more = ap (λ b. if b then Some j else found (without ids k) k) e ∙ more

-- ---- objects

set_some : (bs : List (Option Object)) (k : ℕ) (b : Object) → was_made bs k ≡ true → is_some (at_number (slice_set bs k (Some b)) k) ≡ true
set_some [] k b h = absurd cc
set_some (c ∷ bs) zero b h = refl
set_some (c ∷ bs) (suc k) b h = set_some bs k b h

set_none : (bs : List (Option Object)) (k : ℕ) → at_number (slice_set bs k None) k ≡ None
set_none [] zero = refl
set_none [] (suc k) = refl
set_none (c ∷ bs) zero = refl
set_none (c ∷ bs) (suc k) = set_none bs k

set_away : (bs : List (Option Object)) (k : ℕ) (x : Option Object) → was_made bs k ≡ false → slice_set bs k x ≡ bs
set_away [] zero x h = refl
set_away [] (suc k) x h = refl
set_away (c ∷ bs) zero x h = absurd cc
set_away (c ∷ bs) (suc k) x h = ap (λ ds. c ∷ ds) (set_away bs k x h)

there_made : (bs : List (Option Object)) (k : ℕ) → is_some (at_number bs k) ≡ true → was_made bs k ≡ true
there_made [] zero h = absurd cc
there_made [] (suc k) h = absurd cc
there_made (c ∷ bs) zero h = refl
there_made (c ∷ bs) (suc k) h = there_made bs k h

last_some : (bs : List (Option Object)) (b : Object) → is_some (at_number (bs ++ Some b ∷ []) (length bs)) ≡ true
last_some [] b = refl
last_some (c ∷ bs) b = last_some bs b

last_other : (bs : List (Option Object)) (b : Object) (o : ℕ) → (o ≡ length bs → ⊥) → at_number (bs ++ Some b ∷ []) o ≡ at_number bs o
last_other [] b zero h = absurd (h refl)
last_other [] b (suc o) h = refl
last_other (c ∷ bs) b zero h = refl
last_other (c ∷ bs) b (suc o) h = last_other bs b o (λ e. h (ap suc e))

-- an object that has a variable is there
has_field : (x : Option Object) (i : ℕ) (old : Val) → slice_get (object_or x).fields i ≡ Some old → is_some x ≡ true
has_field None zero old e = absurd cc
has_field None (suc i) old e = absurd cc
has_field (Some b) i old e = refl

has_number : (x : Option Object) (i : ℕ) → is_with_events i (object_or x).set_numbers ≡ true → is_some x ≡ true
has_number None i e = absurd cc
has_number (Some b) i e = refl

-- ---- ids of objects

record Holds (ids : Ids) (bs : List (Option Object)) : Type 0 where
  named : (o : ℕ) → is_some (found ids o) ≡ is_some (at_number bs o)
  apart : (o n i : ℕ) → found ids o ≡ Some i → found ids n ≡ Some i → o ≡ n

-- each number is one of two
by_number : {X : Type 0} (o k : ℕ) → (o ≡ k → X) → ((o ≡ k → ⊥) → X) → X
by_number {X = X} o k f g = by_test (o == k) refl where
  by_test : (b : Bool) → (o == k) ≡ b → X
  by_test true e = f (eqb-true o k e)
  by_test false e = g (eqb-false o k e)

-- another object takes the place of one that is there
put_holds : {ids : Ids} {bs : List (Option Object)} (k : ℕ) (b : Object) → is_some (at_number bs k) ≡ true → Holds ids bs → Holds ids (slice_set bs k (Some b))
put_holds {ids = ids} {bs = bs} k b here h = record {
  named = λ o. by_number o k
      (λ e. h.named o ∙ ap (λ n. is_some (at_number bs n)) e ∙ here ∙ sym (set_some bs k b (there_made bs k here)) ∙ ap (λ n. is_some (at_number (slice_set bs k (Some b)) n)) (sym e))
      (λ e. h.named o ∙ ap is_some (sym (get_or-set_other bs k o (Some b) None e)));
  apart = h.apart;
}

-- a number takes an id that isn't in use
new_holds : {ids : Ids} {bs ds : List (Option Object)} (k i : ℕ) → is_among i (in_use ids) ≡ false → is_some (at_number ds k) ≡ true → ((o : ℕ) → (o ≡ k → ⊥) → at_number ds o ≡ at_number bs o) → Holds ids bs
    → Holds ((k, i) ∷ ids) ds
new_holds {ids = ids} {bs = bs} {ds = ds} k i free here others h = record {
  named = λ o. by_named o (k == o) refl;
  apart = λ o n j e f. by_both o n j (k == o) (k == n) refl refl e f;
} where
  by_named : (o : ℕ) (b : Bool) → (k == o) ≡ b → is_some (if b then Some i else found ids o) ≡ is_some (at_number ds o)
  by_named o true e = sym here ∙ ap (λ n. is_some (at_number ds n)) (eqb-true k o e)
  by_named o false e = h.named o ∙ ap is_some (sym (others o (λ f. eqb-false k o e (sym f))))

  used : {X : Type 0} (o j : ℕ) → Some i ≡ Some j → found ids o ≡ Some j → X
  used o j e f = absurd (let no : true ≡ false = sym (found_used ids o i (f ∙ sym e)) ∙ free in cc)

  by_both : (o n j : ℕ) (b c : Bool) → (k == o) ≡ b → (k == n) ≡ c → (if b then Some i else found ids o) ≡ Some j → (if c then Some i else found ids n) ≡ Some j → o ≡ n
  by_both o n j true true x y e f = sym (eqb-true k o x) ∙ eqb-true k n y
  by_both o n j true false x y e f = used n j e f
  by_both o n j false true x y e f = used o j f e
  by_both o n j false false x y e f = h.apart o n j e f

gone_holds : {ids : Ids} {bs : List (Option Object)} (k : ℕ) → Holds ids bs → Holds (without ids k) (slice_set bs k None)
gone_holds {ids = ids} {bs = bs} k h = record {
  named = λ o. by_number o k
      (λ e. ap (λ n. is_some (found (without ids k) n)) e ∙ ap is_some (found_none ids k) ∙ sym (ap is_some (set_none bs k)) ∙ ap (λ n. is_some (at_number (slice_set bs k None) n)) (sym e))
      (λ e. ap is_some (found_other ids k o e) ∙ h.named o ∙ ap is_some (sym (get_or-set_other bs k o None None e)));
  apart = λ o n i e f. h.apart o n i (still o i e) (still n i f);
} where
  still : (o i : ℕ) → found (without ids k) o ≡ Some i → found ids o ≡ Some i
  still o i e = by_number o k (λ same. absurd (let no : Some i ≡ None = sym e ∙ ap (found (without ids k)) same ∙ found_none ids k in cc)) (λ other. sym (found_other ids k o other) ∙ e)

module _ (pick : List ℕ → ℕ) (free : GivesFree pick) where
  -- an object that is there, or isn't
  maybe_holds : (ids : Ids) (bs : List (Option Object)) (k : ℕ) (b : Object) → Holds ids bs → Holds (with_id_if_gone pick k bs ids) (slice_set bs k (Some b))
  maybe_holds ids bs k b h = by_tests (is_some (at_number bs k)) (was_made bs k) refl refl where
    by_tests : (s t : Bool) → is_some (at_number bs k) ≡ s → was_made bs k ≡ t → Holds (if s || not t then ids else with_id pick k ids) (slice_set bs k (Some b))
    by_tests true t e f = put_holds k b e h
    by_tests false false e f = subst (λ ds. Holds ids ds) (sym (set_away bs k (Some b) f)) h
    by_tests false true e f = new_holds k (pick (in_use ids)) (free (in_use ids)) (set_some bs k b f) (λ o other. get_or-set_other bs k o (Some b) None other) h

  change_holds : (d : Declarations) (m m1 : Memory) (c : Change d m m1) (ids : Ids) → Holds ids m.objects → Holds (ids_after pick m c ids) m1.objects
  change_holds d m _ (aside m1 a) ids h = subst (λ bs. Holds ids bs) (sym a.objects) h
  change_holds d m _ (takes o i old v e) ids h = put_holds o _ (has_field (at_number m.objects o) i old e) h
  change_holds d m _ (connects o i e) ids h = put_holds o _ (has_number (at_number m.objects o) i e) h
  change_holds d m _ (disconnects o i e) ids h = put_holds o _ (has_number (at_number m.objects o) i e) h
  change_holds d m _ (has_items o vs ks e) ids h = maybe_holds ids m.objects o _ h
  change_holds d m _ (makes c) ids h =
      new_holds (length m.objects) (pick (in_use ids)) (free (in_use ids)) (last_some m.objects (new_instance d c)) (λ o other. last_other m.objects (new_instance d c) o other) h
  change_holds d m _ (has_told o) ids h = maybe_holds ids m.objects o _ h
  change_holds d m _ (goes o) ids h = gone_holds o h
  change_holds d m _ (lends p) ids h = h
  change_holds d m _ lends_none ids h = h
  change_holds d m _ (lends_again xs) ids h = h
  change_holds d m _ (raise_ends xs) ids h = h
  change_holds d m _ (enters called p me xs) ids h = h
  change_holds d m _ empties ids h = h
  change_holds d m _ leaves ids h = h
  change_holds d m _ (keeps i k) ids h = h
  change_holds d m _ (drops i) ids h = h

  along : {d : Declarations} {m m1 : Memory} (row : Row d m m1) (ids : Ids) → Holds ids m.objects → Holds (ids_along pick row ids) m1.objects
  along (none m) ids h = h
  along {d = d} (first m m1 m2 c row) ids h = along row (ids_after pick m c ids) (change_holds d m m1 c ids h)

  -- a run begins without objects
  none_made : Holds [] (None ∷ [])
  none_made = record { named = by_place; apart = λ o n i e f. absurd cc } where
    by_place : (o : ℕ) → is_some (found {A = ℕ} [] o) ≡ is_some (at_number (None ∷ []) o)
    by_place zero = refl
    by_place (suc zero) = refl
    by_place (suc (suc o)) = refl

  are_ids : (ids : Ids) (m : Memory) → Holds ids m.objects → AreIds ids m
  are_ids ids m h = record {
    each = λ o there. some_value (found ids o) (h.named o ∙ is_there (at_number m.objects o) there.0 there.1);
    only = λ o i e. some_object (at_number m.objects o) (sym (h.named o) ∙ is_found (found ids o) i e);
    once = h.apart;
  }

  pub ids_found : (d : Declarations) (book : Sheets) → AreFound d book pick
  ids_found d book m row = are_ids (ids_along pick row []) m (along row [] none_made)

  pub ids_meant : (pr : Project) (book : Sheets) (turns : ℕ) → AreMeant pr book turns pick
  ids_meant pr book turns = let row = meant_row pr book turns in (row, ids_found pr.declared book (meaning pr book turns).state.memory row)
