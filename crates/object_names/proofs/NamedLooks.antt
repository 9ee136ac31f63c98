-- How often objects are referred to, and links, under other names.
use Rattle.std.proofs.Common.{◌≡◌, ℕ, zero, suc, ◌+◌, Bool, true, false, List, [], ◌∷◌, ◌++◌, map, Option, Some, None, refl, sym, ap, ◌∙◌, arith}
use Rattle.std.specs.Prelude.{◌==◌, if◌then◌else◌, option_map, slice_set}
use Rattle.std.proofs.lemmas.List.{map-append, get_or-set_other}
use Rattle.std.proofs.lemmas.Bool.{eqb-true, eqb-false}
use Rattle.vba_values.specs.Val.{Val}
use Rattle.vba_meaning.specs.Memory.{Slot, value, path, Kept, Frame, Object, Memory}
use Rattle.vba_meaning.specs.References.{objects_in, objects_in_values, objects_in_slots, objects_kept, kept_value, times, times_in_frames, times_in_objects, looks, is_last}
use Rattle.object_names.specs.Names.{value_named, values_named, slots_named, kept_named, frame_named, object_named, under}
use Rattle.object_names.specs.Renamed.{Matches, at_number, Same}
use Rattle.object_names.proofs.NamedValues.{objects_named, objects_values_named, equal_named}
use Rattle.object_names.proofs.NamedMemory.{value_of_kept_named}

module _ (r : ℕ → ℕ) where
  abbrev nv : Val → Val
  nv v = value_named r v

  abbrev pub nb : Option Object → Option Object
  nb x = option_map (λ b. object_named r b) x

  -- ---- references

  slots_refer : (xs : List Slot) → objects_in_slots (slots_named r xs) ≡ map r (objects_in_slots xs)
  slots_refer [] = refl
  slots_refer (value v ∷ xs) = ap (λ os. os ++ objects_in_slots (slots_named r xs)) (objects_named r v) ∙ ap (λ os. map r (objects_in v) ++ os) (slots_refer xs) ∙ sym (map-append r (objects_in v) (objects_in_slots xs))
  slots_refer (path p ∷ xs) = slots_refer xs

  keeps_refer : (es : List (ℕ × Kept)) → objects_kept (map (λ e. (e.0, kept_named r e.1)) es) ≡ map r (objects_kept es)
  keeps_refer [] = refl
  keeps_refer (e ∷ es) =
      ap (λ os. os ++ objects_kept (map (λ e. (e.0, kept_named r e.1)) es)) (ap (λ v. objects_in v) (value_of_kept_named r e.1) ∙ objects_named r (kept_value e.1))
      ∙ ap (λ os. map r (objects_in (kept_value e.1)) ++ os) (keeps_refer es) ∙ sym (map-append r (objects_in (kept_value e.1)) (objects_kept es))

  module _ (once : (a b : ℕ) → r a ≡ r b → a ≡ b) where
    pub times_named : (o : ℕ) (os : List ℕ) → times (r o) (map r os) ≡ times o os
    times_named o [] = refl
    times_named o (p ∷ os) = ap (λ b. (if b then 1 else 0) + times (r o) (map r os)) (equal_named r once o p) ∙ ap (λ j. (if o == p then 1 else 0) + j) (times_named o os)

    times_by : (o : ℕ) (os ps : List ℕ) → ps ≡ map r os → times (r o) ps ≡ times o os
    times_by o os ps e = ap (times (r o)) e ∙ times_named o os

    frames_refer : (o : ℕ) (fs : List Frame) → times_in_frames (r o) (map (λ f. frame_named r f) fs) ≡ times_in_frames o fs
    frames_refer o [] = refl
    frames_refer o (f ∷ fs) =
        omega (
          arith,
          times_by o (objects_in_slots f.slots) (objects_in_slots (slots_named r f.slots)) (slots_refer f.slots),
          times_by o (objects_kept f.keeps) (objects_kept (map (λ e. (e.0, kept_named r e.1)) f.keeps)) (keeps_refer f.keeps),
          times_by o (objects_in f.me) (objects_in (nv f.me)) (objects_named r f.me),
          times_named o f.held,
          frames_refer o fs,
        )

    -- ---- objects, one after the other

    -- from a number on these are the others under their names, and there are no more
    pub record Part (k : ℕ) (bs cs : List (Option Object)) : Type 0 where
      pub same : (j : ℕ) → at_number cs (r (k + j)) ≡ nb (at_number bs j)
      pub onto : (n : ℕ) (b : Object) → at_number cs n ≡ Some b → (j : ℕ) × (r (k + j) ≡ n)

    pub set_none : (cs : List (Option Object)) (p : ℕ) → at_number (slice_set cs p None) p ≡ None
    set_none [] zero = refl
    set_none [] (suc p) = refl
    set_none (c ∷ cs) zero = refl
    set_none (c ∷ cs) (suc p) = set_none cs p

    pub next_part : {k : ℕ} {b : Option Object} {bs cs : List (Option Object)} → Part k (b ∷ bs) cs → Part (suc k) bs (slice_set cs (r k) None)
    next_part {k = k} {b = b} {bs = bs} {cs = cs} h = record {
      same = λ j. (let apart : r (suc k + j) ≡ r k → ⊥ = λ e. absurd (omega (arith, once (suc k + j) k e)) in
          let moved : suc k + j ≡ k + suc j = omega arith in
          get_or-set_other cs (r k) (r (suc k + j)) None None apart ∙ ap (λ n. at_number cs (r n)) moved ∙ h.same (suc j));
      onto = λ n c e. by_test n c e (n == r k) refl;
    } where
      by_place : (n : ℕ) → (n ≡ r k → ⊥) → (j : ℕ) × (r (k + j) ≡ n) → (j : ℕ) × (r (suc k + j) ≡ n)
      by_place n other (zero, e) = absurd (other (sym e ∙ ap r (let is : k + 0 ≡ k = omega arith in is)))
      by_place n other (suc j, e) = (j, ap r (let is : suc k + j ≡ k + suc j = omega arith in is) ∙ e)

      by_test : (n : ℕ) (c : Object) → at_number (slice_set cs (r k) None) n ≡ Some c → (t : Bool) → (n == r k) ≡ t → (j : ℕ) × (r (suc k + j) ≡ n)
      by_test n c e true f = absurd (let no : None ≡ Some c = sym (set_none cs (r k)) ∙ ap (at_number (slice_set cs (r k) None)) (sym (eqb-true n (r k) f)) ∙ e in cc)
      by_test n c e false f =
          let other : n ≡ r k → ⊥ = eqb-false n (r k) f in by_place n other (h.onto n c (sym (get_or-set_other cs (r k) n None None other) ∙ e))

    pub none_left : {k : ℕ} {cs : List (Option Object)} → Part k [] cs → (n : ℕ) → at_number cs n ≡ None
    none_left {k = k} {cs = cs} h n = by_object (at_number cs n) refl where
      nothing : (j : ℕ) → nb (at_number [] j) ≡ None
      nothing zero = refl
      nothing (suc j) = refl

      by_object : (x : Option Object) → at_number cs n ≡ x → at_number cs n ≡ None
      by_object None e = e
      by_object (Some b) e = let at = h.onto n b e in ap (at_number cs) (sym at.1) ∙ h.same at.0 ∙ nothing at.0

    pub first_place : {k : ℕ} {b : Option Object} {bs cs : List (Option Object)} → Part k (b ∷ bs) cs → at_number cs (r k) ≡ nb b
    first_place {k = k} {cs = cs} h = ap (λ n. at_number cs (r n)) (let is : k ≡ k + 0 = omega arith in is) ∙ h.same 0

    pub whole_part : {bs cs : List (Option Object)} → Matches r bs cs → Part 0 bs cs
    whole_part {bs = bs} {cs = cs} k = record {
      same = λ j. ap (λ n. at_number cs (r n)) (let is : 0 + j ≡ j = omega arith in is) ∙ k.same j;
      onto = λ n b e. (let at = k.onto n b e in (at.0, ap r (let is : 0 + at.0 ≡ at.0 = omega arith in is) ∙ at.1));
    }

    -- how often their fields refer to one
    one_times : ℕ → Option Object → ℕ
    one_times o None = 0
    one_times o (Some b) = times o (objects_in_values b.fields)

    without_one : (o : ℕ) (cs : List (Option Object)) (p : ℕ) → times_in_objects o cs ≡ one_times o (at_number cs p) + times_in_objects o (slice_set cs p None)
    unfolding one_times
    without_one o [] zero = omega arith
    without_one o [] (suc p) = omega arith
    without_one o (None ∷ cs) zero = omega arith
    without_one o (Some c ∷ cs) zero = omega arith
    without_one o (None ∷ cs) (suc p) = without_one o cs p
    without_one o (Some c ∷ cs) (suc p) = omega (arith, without_one o cs p)

    none_times : (o : ℕ) (cs : List (Option Object)) → ((n : ℕ) → at_number cs n ≡ None) → times_in_objects o cs ≡ 0
    none_times o [] h = refl
    none_times o (None ∷ cs) h = none_times o cs (λ n. h (suc n))
    none_times o (Some c ∷ cs) h = absurd (let no : Some c ≡ None = h 0 in cc)

    one_named : (o : ℕ) (b : Option Object) → one_times (r o) (nb b) ≡ one_times o b
    unfolding one_times
    one_named o None = refl
    one_named o (Some b) = times_by o (objects_in_values b.fields) (objects_in_values (values_named r b.fields)) (objects_values_named r b.fields)

    first_times : (o : ℕ) (b : Option Object) (bs : List (Option Object)) → times_in_objects o (b ∷ bs) ≡ one_times o b + times_in_objects o bs
    unfolding one_times
    first_times o None bs = omega arith
    first_times o (Some b) bs = omega arith

    part_times : (o k : ℕ) (bs cs : List (Option Object)) → Part k bs cs → times_in_objects (r o) cs ≡ times_in_objects o bs
    part_times o k [] cs h = none_times (r o) cs (none_left h)
    part_times o k (b ∷ bs) cs h =
        let here : one_times (r o) (at_number cs (r k)) ≡ one_times o b = ap (one_times (r o)) (first_place h) ∙ one_named o b in
        omega (arith, without_one (r o) cs (r k), here, first_times o b bs, part_times o (suc k) bs (slice_set cs (r k) None) (next_part h))

    -- ---- looking

    values_refer : (o : ℕ) (vs : List Val) → times (r o) (objects_in_values (values_named r vs)) ≡ times o (objects_in_values vs)
    values_refer o vs = times_by o (objects_in_values vs) (objects_in_values (values_named r vs)) (objects_values_named r vs)

    pub looks_here : (m : Memory) (cs : List (Option Object)) → Matches r m.objects cs → (o : ℕ) → looks (under r m cs) (r o) ≡ looks m o
    looks_here m cs k o = omega (arith, values_refer o m.shared, frames_refer o m.frames, part_times o 0 m.objects cs (whole_part k), times_named o m.waiting)

  pub last_same : {m n : Memory} (o : ℕ) → Same r m n → is_last n (r o) ≡ is_last m o
  last_same {m = m} o k = ap (λ x. is_last x (r o)) k.is ∙ ap (λ j. j == 0) (looks_here k.fit.matches.once m k.objects k.fit.matches o)
