-- What locking and unlocking does to each count, and how often a lent path locks a place.
use Rattle.std.proofs.Common.{◌≡◌, ℕ, ◌+◌, Bool, true, false, List, [], ◌∷◌, ◌++◌, map, refl, sym, ap, ◌∙◌, arith}
use Rattle.std.specs.Prelude.{◌==◌, ◌-◌, ◌&&◌, if◌then◌else◌}
use Rattle.std.proofs.lemmas.Bool.{eqb-true}
use Rattle.arrays_udt.specs.declared.paths.PathStep.{PathStep}
use Rattle.arrays_udt.specs.declared.paths.PathStep.TheVariants.{Field, Element}
use Rattle.arrays_udt.specs.Paths.{same_step}
use Rattle.vba_meaning.specs.Paths.{Root, in_frame, in_project, in_fields, in_block, Step, Path, plain_steps, same_root, any_moves, leads_through, is_below}
use Rattle.array_locks.specs.Stored.{how_many_below, Place, same_steps, same_place, place_of, beginnings, places_locked, Locks, lock_count, lock, unlock, lock_all, unlock_all, lent_paths, returned_paths}

abbrev pub one_if : Bool → ℕ
one_if b = if b then 1 else 0

-- ---- places that are the same

and_first : (a b : Bool) → (a && b) ≡ true → a ≡ true
and_first true b e = refl
and_first false b e = absurd cc

and_second : (a b : Bool) → (a && b) ≡ true → b ≡ true
and_second true b e = e
and_second false b e = absurd cc

root_is : (a b : Root) → same_root a b ≡ true → a ≡ b
root_is (in_frame k x) (in_frame j y) e = ap (λ n. in_frame n x) (eqb-true k j (and_first (k == j) (x == y) e)) ∙ ap (λ n. in_frame j n) (eqb-true x y (and_second (k == j) (x == y) e))
root_is (in_project x) (in_project y) e = ap in_project (eqb-true x y e)
root_is (in_fields o i) (in_fields n j) e = ap (λ k. in_fields k i) (eqb-true o n (and_first (o == n) (i == j) e)) ∙ ap (λ k. in_fields n k) (eqb-true i j (and_second (o == n) (i == j) e))
root_is (in_block k i) (in_block j h) e = ap (λ n. in_block n i) (eqb-true k j (and_first (k == j) (i == h) e)) ∙ ap (λ n. in_block j n) (eqb-true i h (and_second (k == j) (i == h) e))
root_is a b e = absurd cc

step_is : (a b : PathStep) → same_step a b ≡ true → a ≡ b
step_is (Field a) (Field b) e = ap Field (eqb-true a b e)
step_is (Element a) (Element b) e = ap Element (eqb-true a b e)
step_is (Field a) (Element b) e = absurd cc
step_is (Element a) (Field b) e = absurd cc

steps_are : (ss ts : List PathStep) → same_steps ss ts ≡ true → ss ≡ ts
steps_are [] [] e = refl
steps_are [] (t ∷ ts) e = absurd cc
steps_are (s ∷ ss) [] e = absurd cc
steps_are (s ∷ ss) (t ∷ ts) e =
    ap (λ x. x ∷ ss) (step_is s t (and_first (same_step s t) (same_steps ss ts) e)) ∙ ap (λ xs. t ∷ xs) (steps_are ss ts (and_second (same_step s t) (same_steps ss ts) e))

place_is : (a b : Place) → same_place a b ≡ true → a ≡ b
place_is a b e =
    ap (λ r. record { root = r; steps = a.steps }) (root_is a.root b.root (and_first (same_root a.root b.root) (same_steps a.steps b.steps) e))
    ∙ ap (λ ss. record { root = b.root; steps = ss }) (steps_are a.steps b.steps (and_second (same_root a.root b.root) (same_steps a.steps b.steps) e))

-- one place is the same as at most one of two that differ
differs : (e p q : Place) → same_place e p ≡ false → same_place e q ≡ true → same_place p q ≡ false
differs e p q b c = by_test (same_place p q) refl where
  by_test : (t : Bool) → same_place p q ≡ t → t ≡ false
  by_test true f = absurd (let no : true ≡ false = sym c ∙ ap (same_place e) (sym (place_is p q f)) ∙ b in cc)
  by_test false f = refl

-- ---- one place is locked or unlocked

pub lock_one : (locks : Locks) (p q : Place) → lock_count (lock locks p) q ≡ lock_count locks q + one_if (same_place p q)
lock_one [] p q = by_test (same_place p q) where
  by_test : (b : Bool) → (if b then 1 else 0) ≡ 0 + one_if b
  by_test true = refl
  by_test false = refl
lock_one ((e, k) ∷ es) p q = by_tests (same_place e p) (same_place e q) refl refl (lock_one es p q) where
  by_tests : (b c : Bool) → same_place e p ≡ b → same_place e q ≡ c → lock_count (lock es p) q ≡ lock_count es q + one_if (same_place p q)
      → lock_count (if b then (e, k + 1) ∷ es else (e, k) ∷ lock es p) q ≡ (if c then k else lock_count es q) + one_if (same_place p q)
  by_tests true true f g more =
      let same : same_place p q ≡ true = ap (λ x. same_place x q) (sym (place_is e p f)) ∙ g in
      ap (λ t. if t then k + 1 else lock_count es q) g ∙ ap (λ t. k + one_if t) (sym same)
  by_tests true false f g more =
      let same : same_place p q ≡ false = ap (λ x. same_place x q) (sym (place_is e p f)) ∙ g in
      let zero_more : lock_count es q ≡ lock_count es q + 0 = omega arith in
      ap (λ t. if t then k + 1 else lock_count es q) g ∙ zero_more ∙ ap (λ t. lock_count es q + one_if t) (sym same)
  by_tests false true f g more =
      let zero_more : k ≡ k + 0 = omega arith in
      ap (λ t. if t then k else lock_count (lock es p) q) g ∙ zero_more ∙ ap (λ t. k + one_if t) (sym (differs e p q f g))
  by_tests false false f g more = ap (λ t. if t then k else lock_count (lock es p) q) g ∙ more

pub unlock_one : (locks : Locks) (p q : Place) → lock_count (unlock locks p) q ≡ lock_count locks q - one_if (same_place p q)
unlock_one [] p q = by_test (same_place p q) where
  by_test : (b : Bool) → 0 ≡ 0 - one_if b
  by_test true = refl
  by_test false = refl
unlock_one ((e, k) ∷ es) p q = by_tests (same_place e p) (same_place e q) refl refl (unlock_one es p q) where
  by_tests : (b c : Bool) → same_place e p ≡ b → same_place e q ≡ c → lock_count (unlock es p) q ≡ lock_count es q - one_if (same_place p q)
      → lock_count (if b then (e, k - 1) ∷ es else (e, k) ∷ unlock es p) q ≡ (if c then k else lock_count es q) - one_if (same_place p q)
  by_tests true true f g more =
      let same : same_place p q ≡ true = ap (λ x. same_place x q) (sym (place_is e p f)) ∙ g in
      ap (λ t. if t then k - 1 else lock_count es q) g ∙ ap (λ t. k - one_if t) (sym same)
  by_tests true false f g more =
      let same : same_place p q ≡ false = ap (λ x. same_place x q) (sym (place_is e p f)) ∙ g in
      let none_less : lock_count es q ≡ lock_count es q - 0 = omega arith in
      ap (λ t. if t then k - 1 else lock_count es q) g ∙ none_less ∙ ap (λ t. lock_count es q - one_if t) (sym same)
  by_tests false true f g more =
      let none_less : k ≡ k - 0 = omega arith in
      ap (λ t. if t then k else lock_count (unlock es p) q) g ∙ none_less ∙ ap (λ t. k - one_if t) (sym (differs e p q f g))
  by_tests false false f g more = ap (λ t. if t then k else lock_count (unlock es p) q) g ∙ more

-- ---- as often as a place stands among places

abbrev pub times_place : List Place → Place → ℕ
times_place [] q = 0
times_place (p ∷ ps) q = one_if (same_place p q) + times_place ps q

pub all_locked : (locks : Locks) (ps : List Place) (q : Place) → lock_count (lock_all locks ps) q ≡ lock_count locks q + times_place ps q
all_locked locks [] q = omega arith
all_locked locks (p ∷ ps) q = omega (arith, all_locked (lock locks p) ps q, lock_one locks p q)

pub all_unlocked : (locks : Locks) (ps : List Place) (q : Place) → lock_count (unlock_all locks ps) q ≡ lock_count locks q - times_place ps q
all_unlocked locks [] q = omega arith
all_unlocked locks (p ∷ ps) q = omega (arith, all_unlocked (unlock locks p) ps q, unlock_one locks p q)

-- ---- the places that a path locks

abbrev times_steps : List (List PathStep) → List PathStep → ℕ
times_steps [] ts = 0
times_steps (ss ∷ sss) ts = one_if (same_steps ss ts) + times_steps sss ts

steps_append : (xs ys : List (List PathStep)) (ts : List PathStep) → times_steps (xs ++ ys) ts ≡ times_steps xs ts + times_steps ys ts
steps_append [] ys ts = omega arith
steps_append (x ∷ xs) ys ts = omega (arith, steps_append xs ys ts)

longer : (s : PathStep) (sss : List (List PathStep)) → times_steps (map (λ ss. s ∷ ss) sss) [] ≡ 0
longer s [] = refl
longer s (ss ∷ sss) = omega (arith, longer s sss)

stepped : (s t : PathStep) (sss : List (List PathStep)) (ts : List PathStep) → times_steps (map (λ ss. s ∷ ss) sss) (t ∷ ts) ≡ (if same_step s t then times_steps sss ts else 0)
stepped s t [] ts = by_test (same_step s t) where
  by_test : (b : Bool) → ◌≡◌ {A = ℕ} 0 (if b then 0 else 0)
  by_test true = refl
  by_test false = refl
stepped s t (ss ∷ sss) ts = by_test (same_step s t) (stepped s t sss ts) where
  by_test : (b : Bool) → times_steps (map (λ ss. s ∷ ss) sss) (t ∷ ts) ≡ (if b then times_steps sss ts else 0)
      → one_if (b && same_steps ss ts) + times_steps (map (λ ss. s ∷ ss) sss) (t ∷ ts) ≡ (if b then one_if (same_steps ss ts) + times_steps sss ts else 0)
  by_test true h = omega (arith, h)
  by_test false h = omega (arith, h)

begins : (steps place : List Step) → times_steps (beginnings steps) (plain_steps place) ≡ one_if (leads_through steps place)
begins [] [] = refl
begins [] (t ∷ place) = refl
begins (s ∷ steps) [] = omega (arith, steps_append (if any_moves (s ∷ steps) then [] ∷ [] else []) (map (λ ss. s.step ∷ ss) (beginnings steps)) [], longer s.step (beginnings steps), by_test (any_moves (s ∷ steps))) where
  by_test : (b : Bool) → times_steps (if b then [] ∷ [] else []) [] ≡ one_if b
  by_test true = refl
  by_test false = refl
begins (s ∷ steps) (t ∷ place) =
    omega (
      arith,
      steps_append (if any_moves (s ∷ steps) then [] ∷ [] else []) (map (λ ss. s.step ∷ ss) (beginnings steps)) (t.step ∷ plain_steps place),
      here (any_moves (s ∷ steps)),
      stepped s.step t.step (beginnings steps) (plain_steps place),
      by_step (same_step s.step t.step) (begins steps place),
    ) where
      here : (b : Bool) → times_steps (if b then [] ∷ [] else []) (t.step ∷ plain_steps place) ≡ 0
      here true = refl
      here false = refl

      by_step : (b : Bool) → times_steps (beginnings steps) (plain_steps place) ≡ one_if (leads_through steps place)
          → (if b then times_steps (beginnings steps) (plain_steps place) else 0) ≡ one_if (b && leads_through steps place)
      by_step true h = h
      by_step false h = refl

rooted : (r : Root) (sss : List (List PathStep)) (q : Place) → times_place (map (λ ss. record { root = r; steps = ss }) sss) q ≡ (if same_root r q.root then times_steps sss q.steps else 0)
rooted r [] q = by_test (same_root r q.root) where
  by_test : (b : Bool) → ◌≡◌ {A = ℕ} 0 (if b then 0 else 0)
  by_test true = refl
  by_test false = refl
rooted r (ss ∷ sss) q = by_test (same_root r q.root) (rooted r sss q) where
  by_test : (b : Bool) → times_place (map (λ ss. record { root = r; steps = ss }) sss) q ≡ (if b then times_steps sss q.steps else 0)
      → one_if (b && same_steps ss q.steps) + times_place (map (λ ss. record { root = r; steps = ss }) sss) q ≡ (if b then one_if (same_steps ss q.steps) + times_steps sss q.steps else 0)
  by_test true h = omega (arith, h)
  by_test false h = omega (arith, h)

pub path_locks : (p q : Path) → times_place (places_locked p) (place_of q) ≡ one_if (is_below p q)
path_locks p q = rooted p.root (beginnings p.steps) (place_of q) ∙ by_root (same_root p.root q.root) (begins p.steps q.steps) where
  by_root : (b : Bool) → times_steps (beginnings p.steps) (plain_steps q.steps) ≡ one_if (leads_through p.steps q.steps)
      → (if b then times_steps (beginnings p.steps) (plain_steps q.steps) else 0) ≡ one_if (b && leads_through p.steps q.steps)
  by_root true h = h
  by_root false h = refl

-- ---- paths that are lent, and no longer

pub lent_count : (locks : Locks) (ps : List Path) (q : Path) → lock_count (lent_paths locks ps) (place_of q) ≡ lock_count locks (place_of q) + how_many_below ps q
lent_count locks [] q = omega arith
lent_count locks (p ∷ ps) q = omega (arith, lent_count (lock_all locks (places_locked p)) ps q, all_locked locks (places_locked p) (place_of q), path_locks p q)

pub returned_count : (locks : Locks) (ps : List Path) (q : Path) → lock_count (returned_paths locks ps) (place_of q) ≡ lock_count locks (place_of q) - how_many_below ps q
returned_count locks [] q = omega arith
returned_count locks (p ∷ ps) q = omega (arith, returned_count (unlock_all locks (places_locked p)) ps q, all_unlocked locks (places_locked p) (place_of q), path_locks p q)

pub below_append : (ps rs : List Path) (q : Path) → how_many_below (ps ++ rs) q ≡ how_many_below ps q + how_many_below rs q
below_append [] rs q = omega arith
below_append (p ∷ ps) rs q = omega (arith, below_append ps rs q)
