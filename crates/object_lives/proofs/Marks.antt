-- Which objects a memory has, and which of them have told their end, beside the events that were told.
use Rattle.std.proofs.Common.{◌≡◌, ℕ, zero, suc, ◌+◌, ◌≤◌, Bool, true, false, List, [], ◌∷◌, ◌++◌, length, Option, Some, None, refl, sym, ap, ◌∙◌, subst, arith, length-append}
use Rattle.std.specs.Prelude.{nat_lt, ◌==◌, ◌&&◌, slice_index_or, slice_set, if◌then◌else◌}
use Rattle.std.proofs.lemmas.Bool.{eqb-true, eqb-false, eq-eqb, ltb-true, ltb-false}
use Rattle.std.proofs.lemmas.List.{length-set}
use Rattle.bound_project.specs.Project.{Declarations}
use Rattle.vba_meaning.specs.Memory.{Object, object_or}
use Rattle.vba_meaning.specs.Effects.{Event, Init, Term}
use Rattle.vba_meaning.specs.Objects.{new_instance}
use Rattle.object_counts.proofs.Stored.{object_in}
use Rattle.object_lives.specs.Once.{times_made, times_ended, any_class}

-- ---- events

pub made_append : (f : ℕ → Bool) (o : ℕ) (es hs : List Event) → times_made f o (es ++ hs) ≡ times_made f o es + times_made f o hs
made_append f o [] hs = omega arith
made_append f o (Init c n ∷ es) hs = omega (arith, made_append f o es hs)
made_append f o (e ∷ es) hs = made_append f o es hs

pub ended_append : (f : ℕ → Bool) (o : ℕ) (es hs : List Event) → times_ended f o (es ++ hs) ≡ times_ended f o es + times_ended f o hs
ended_append f o [] hs = omega arith
ended_append f o (Term c n ∷ es) hs = omega (arith, ended_append f o es hs)
ended_append f o (e ∷ es) hs = ended_append f o es hs

-- ---- objects

abbrev one_if : Bool → ℕ
one_if b = if b then 1 else 0

-- whether an object may still tell that it ends
abbrev pub ready_one : (ℕ → Bool) → Option Object → ℕ
ready_one f None = 0
ready_one f (Some b) = if b.told then 0 else if f b.class then 1 else 0

abbrev pub ready : (ℕ → Bool) → ℕ → List (Option Object) → ℕ
ready f o bs = ready_one f (slice_index_or bs o None)

-- whether a number may still be taken
abbrev pub not_below : Bool → ℕ
not_below b = if b then 0 else 1

abbrev pub fresh : ℕ → List (Option Object) → ℕ
fresh o bs = not_below (nat_lt o (length bs))

-- after these events: an object that may end, or that was made, has told its end, or may; and a number that was taken is
-- told at most once
pub record Marked (bs : List (Option Object)) (es : List Event) (cs : List (Option Object)) : Type 0 where
  pub ends : (f : ℕ → Bool) (o : ℕ) → times_ended f o es + ready f o cs ≤ ready f o bs + times_made f o es
  pub makes : (o : ℕ) → times_made any_class o es + fresh o cs ≤ fresh o bs

pub unmarked : (bs : List (Option Object)) → Marked bs [] bs
unmarked bs = record { ends = λ f o. omega arith; makes = λ o. omega arith }

pub marked_then : {bs cs ds : List (Option Object)} {es hs : List Event} → Marked bs es cs → Marked cs hs ds → Marked bs (es ++ hs) ds
marked_then {es = es} {hs = hs} a b = record {
  ends = λ f o. omega (arith, a.ends f o, b.ends f o, ended_append f o es hs, made_append f o es hs);
  makes = λ o. omega (arith, a.makes o, b.makes o, made_append any_class o es hs);
}

-- events that tell of no object
pub record Silent (es : List Event) : Type 0 where
  pub no_end : (f : ℕ → Bool) (o : ℕ) → times_ended f o es ≡ 0
  pub none_made : (f : ℕ → Bool) (o : ℕ) → times_made f o es ≡ 0

pub silent_marks : {es : List Event} (bs : List (Option Object)) → Silent es → Marked bs es bs
silent_marks bs s = record { ends = λ f o. omega (arith, s.no_end f o, s.none_made f o); makes = λ o. omega (arith, s.none_made any_class o) }

-- ---- one object is written

-- by its mark and its class
abbrev marked_as : (ℕ → Bool) → (told : Bool) → (class : ℕ) → ℕ
marked_as f told c = if told then 0 else if f c then 1 else 0

same_ready : (f : ℕ → Bool) (x : Option Object) (b : Object) → b.told ≡ (object_or x).told → b.class ≡ (object_or x).class → ready_one f (Some b) ≡ ready_one f x
same_ready f None b t c = ap (λ x. marked_as f x b.class) t
same_ready f (Some d) b t c = ap (λ x. marked_as f x b.class) t ∙ ap (λ k. marked_as f d.told k) c

ready_set : (f : ℕ → Bool) (o : ℕ) (bs : List (Option Object)) (n : ℕ) (x : Option Object) → ready_one f x ≡ ready_one f (slice_index_or bs n None) → ready f o (slice_set bs n x) ≡ ready f o bs
ready_set f o [] zero x e = refl
ready_set f o [] (suc n) x e = refl
ready_set f zero (b ∷ bs) zero x e = e
ready_set f (suc o) (b ∷ bs) zero x e = refl
ready_set f zero (b ∷ bs) (suc n) x e = refl
ready_set f (suc o) (b ∷ bs) (suc n) x e = ready_set f o bs n x e

pub fresh_set : (o : ℕ) (bs : List (Option Object)) (n : ℕ) (x : Option Object) → fresh o (slice_set bs n x) ≡ fresh o bs
fresh_set o bs n x = ap (λ k. not_below (nat_lt o k)) (length-set bs n x)

pub kept_marked : (bs : List (Option Object)) (n : ℕ) (b : Object) → b.told ≡ (object_in bs n).told → b.class ≡ (object_in bs n).class → Marked bs [] (slice_set bs n (Some b))
kept_marked bs n b t c = record {
  ends = λ f o. omega (arith, ready_set f o bs n (Some b) (same_ready f (slice_index_or bs n None) b t c));
  makes = λ o. omega (arith, fresh_set o bs n (Some b));
}

-- ---- an object is made

ready_last : (f : ℕ → Bool) (bs : List (Option Object)) (b : Object) → (ready f (length bs) (bs ++ Some b ∷ []) ≡ ready_one f (Some b)) × (ready f (length bs) bs ≡ 0)
ready_last f [] b = (refl, refl)
ready_last f (c ∷ bs) b = ready_last f bs b

ready_other : (f : ℕ → Bool) (o : ℕ) (bs : List (Option Object)) (b : Object) → (o ≡ length bs → ⊥) → ready f o (bs ++ Some b ∷ []) ≡ ready f o bs
ready_other f zero [] b h = absurd (h refl)
ready_other f (suc o) [] b h = refl
ready_other f zero (c ∷ bs) b h = refl
ready_other f (suc o) (c ∷ bs) b h = ready_other f o bs b (λ e. h (ap suc e))

-- its number is taken then
fresh_more : (o : ℕ) (bs : List (Option Object)) (b : Object) → (if length bs == o then 1 else 0) + fresh o (bs ++ Some b ∷ []) ≤ fresh o bs
fresh_more o bs b = by_tests (length bs == o) (nat_lt o (length bs)) (nat_lt o (length (bs ++ Some b ∷ []))) refl refl refl where
  by_tests : (x y z : Bool) → (length bs == o) ≡ x → nat_lt o (length bs) ≡ y → nat_lt o (length (bs ++ Some b ∷ [])) ≡ z → (if x then 1 else 0) + (if z then 0 else 1) ≤ (if y then 0 else 1)
  by_tests true true z a c d = absurd (omega (arith, eqb-true (length bs) o a, ltb-true o (length bs) c))
  by_tests true false true a c d = omega arith
  by_tests true false false a c d = absurd (omega (arith, eqb-true (length bs) o a, ltb-false o (length (bs ++ Some b ∷ [])) d, length-append bs (Some b ∷ [])))
  by_tests false true true a c d = omega arith
  by_tests false true false a c d = absurd (omega (arith, ltb-true o (length bs) c, ltb-false o (length (bs ++ Some b ∷ [])) d, length-append bs (Some b ∷ [])))
  by_tests false false true a c d = omega arith
  by_tests false false false a c d = omega arith

-- an instance of a class is told, and a Collection isn't
abbrev pub made_events : (class number : ℕ) → List Event
made_events zero n = []
made_events (suc c) n = Init (suc c) n ∷ []

made_ready : (f : ℕ → Bool) (d : Declarations) (c o n : ℕ) → (n ≡ o) → ready_one f (Some (new_instance d c)) ≡ times_made f o (made_events c n)
made_ready f d zero o n e = refl
made_ready f d (suc c) o n e = subst (λ k. one_if (f (suc c)) ≡ times_made f k (Init (suc c) n ∷ [])) e (own (n == n) (eq-eqb n n refl)) where
  own : (b : Bool) → b ≡ true → one_if (f (suc c)) ≡ one_if (b && f (suc c)) + 0
  own true x = omega arith
  own false x = absurd cc

pub made_marked : (d : Declarations) (c : ℕ) (bs : List (Option Object)) → Marked bs (made_events c (length bs)) (bs ++ Some (new_instance d c) ∷ [])
made_marked d c bs = record { ends = λ f o. ends f o (length bs == o) refl; makes = λ o. makes o c } where
  no_end : (f : ℕ → Bool) (o : ℕ) (k : ℕ) → times_ended f o (made_events k (length bs)) ≡ 0
  no_end f o zero = refl
  no_end f o (suc k) = refl

  ends : (f : ℕ → Bool) (o : ℕ) (b : Bool) → (length bs == o) ≡ b
      → times_ended f o (made_events c (length bs)) + ready f o (bs ++ Some (new_instance d c) ∷ []) ≤ ready f o bs + times_made f o (made_events c (length bs))
  ends f o true e =
      let is : length bs ≡ o = eqb-true (length bs) o e in
      let last = ready_last f bs (new_instance d c) in
      let at : ready f o (bs ++ Some (new_instance d c) ∷ []) ≡ ready_one f (Some (new_instance d c)) = ap (λ k. ready f k (bs ++ Some (new_instance d c) ∷ [])) (sym is) ∙ last.0 in
      omega (arith, no_end f o c, at, made_ready f d c o (length bs) is)
  ends f o false e =
      let apart : o ≡ length bs → ⊥ = λ x. eqb-false (length bs) o e (sym x) in
      omega (arith, no_end f o c, ready_other f o bs (new_instance d c) apart)

  makes : (o k : ℕ) → times_made any_class o (made_events k (length bs)) + fresh o (bs ++ Some (new_instance d c) ∷ []) ≤ fresh o bs
  makes o zero = omega (arith, fresh_more o bs (new_instance d c))
  makes o (suc k) = by_test (length bs == o) refl (fresh_more o bs (new_instance d c)) where
    by_test : (b : Bool) → (length bs == o) ≡ b → (if b then 1 else 0) + fresh o (bs ++ Some (new_instance d c) ∷ []) ≤ fresh o bs
        → ((if b && true then 1 else 0) + 0) + fresh o (bs ++ Some (new_instance d c) ∷ []) ≤ fresh o bs
    by_test true e h = omega (arith, h)
    by_test false e h = omega (arith, h)

-- ---- an object tells that it ends, and leaves

told_ready : (f : ℕ → Bool) (o : ℕ) (bs : List (Option Object)) (n : ℕ) (b : Object) → b.told ≡ true → ready f o (slice_set bs n (Some b)) ≤ ready f o bs
told_ready f o [] zero b t = omega arith
told_ready f o [] (suc n) b t = omega arith
told_ready f zero (c ∷ bs) zero b t = omega (arith, ap (λ x. marked_as f x b.class) t)
told_ready f (suc o) (c ∷ bs) zero b t = omega arith
told_ready f zero (c ∷ bs) (suc n) b t = omega arith
told_ready f (suc o) (c ∷ bs) (suc n) b t = told_ready f o bs n b t

-- one that was told before
pub told_marked : (bs : List (Option Object)) (n : ℕ) (b : Object) → b.told ≡ true → Marked bs [] (slice_set bs n (Some b))
told_marked bs n b t = record { ends = λ f o. omega (arith, told_ready f o bs n b t); makes = λ o. omega (arith, fresh_set o bs n (Some b)) }

told_now : (f : ℕ → Bool) (bs : List (Option Object)) (n : ℕ) (b : Object) → b.told ≡ true → (object_in bs n).told ≡ false
    → (ready f n (slice_set bs n (Some b)) ≡ 0) × (ready f n bs ≡ (if f (object_in bs n).class then 1 else 0))
told_now f [] zero b t e = absurd cc
told_now f [] (suc n) b t e = absurd cc
told_now f (None ∷ bs) zero b t e = absurd cc
told_now f (Some c ∷ bs) zero b t e = (ap (λ x. marked_as f x b.class) t, ap (λ x. marked_as f x c.class) e)
told_now f (c ∷ bs) (suc n) b t e = told_now f bs n b t e

-- and one that tells it now
pub ending_marked : (bs : List (Option Object)) (n : ℕ) (b : Object) → b.told ≡ true → (object_in bs n).told ≡ false → Marked bs (Term (object_in bs n).class n ∷ []) (slice_set bs n (Some b))
ending_marked bs n b t e = record { ends = λ f o. ends f o (n == o) refl; makes = λ o. omega (arith, fresh_set o bs n (Some b)) } where
  ends : (f : ℕ → Bool) (o : ℕ) (x : Bool) → (n == o) ≡ x
      → ((if x && f (object_in bs n).class then 1 else 0) + 0) + ready f o (slice_set bs n (Some b)) ≤ ready f o bs + 0
  ends f o true x =
      let is : n ≡ o = eqb-true n o x in
      let now = told_now f bs n b t e in
      let after : ready f o (slice_set bs n (Some b)) ≡ 0 = ap (λ k. ready f k (slice_set bs n (Some b))) (sym is) ∙ now.0 in
      let before : ready f o bs ≡ (if f (object_in bs n).class then 1 else 0) = ap (λ k. ready f k bs) (sym is) ∙ now.1 in
      omega (arith, after, before)
  ends f o false x = omega (arith, told_ready f o bs n b t)

gone_ready : (f : ℕ → Bool) (o : ℕ) (bs : List (Option Object)) (n : ℕ) → ready f o (slice_set bs n None) ≤ ready f o bs
gone_ready f o [] zero = omega arith
gone_ready f o [] (suc n) = omega arith
gone_ready f zero (c ∷ bs) zero = omega arith
gone_ready f (suc o) (c ∷ bs) zero = omega arith
gone_ready f zero (c ∷ bs) (suc n) = omega arith
gone_ready f (suc o) (c ∷ bs) (suc n) = gone_ready f o bs n

pub gone_marked : (bs : List (Option Object)) (n : ℕ) → Marked bs [] (slice_set bs n None)
gone_marked bs n = record { ends = λ f o. omega (arith, gone_ready f o bs n); makes = λ o. omega (arith, fresh_set o bs n None) }
