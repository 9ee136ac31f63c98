-- A For Each by what its block keeps.
use Rattle.std.proofs.Common.{◌≡◌, ℕ, zero, suc, List, [], ◌∷◌, map, get_or, refl, sym, ap, ◌∙◌, arith, rules}
use Rattle.std.proofs.lemmas.Grind.{common_steps}
use Rattle.std.proofs.lemmas.Bool.{eqb-true}
use Rattle.std.specs.Prelude.{Bool, true, false, Option, Some, None, slice_set, ◌==◌, nat_lt, if◌then◌else◌}
use Rattle.vba_values.specs.Val.{Val}
use Rattle.bound_project.specs.Expressions.{Variable}
use Rattle.run_memory.specs.declared.frame.Kept.{Kept}
use Rattle.run_memory.specs.View.{kept_view, kept_at_view}
use Rattle.run_memory.specs.Keeps.{is_kept, place_in}
use Rattle.run_arrays.specs.Walks.{item_walked, rewalked, walk_of, walk_set, walks_set}
use Rattle.vba_meaning.specs.Memory as plain
use Rattle.vba_meaning.specs.Memory.{found, put, only, at_path, walk}
use Rattle.vba_meaning.specs.Effects.{Fine, Bad-at, on_fine}
use Rattle.vba_meaning.specs.Arrays.{block_over, each_by, item_stored, next_item, not_walking, walking}

-- ---- the entry of a header

put_behind : (e : ℕ × plain.Kept) (es : List (ℕ × plain.Kept)) (i : ℕ) (k : plain.Kept) → nat_lt e.0 i ≡ true → put i k (e ∷ es) ≡ e ∷ put i k es
put_behind e es i k h = grind (arith, common_steps)

put_same : (e : ℕ × plain.Kept) (es : List (ℕ × plain.Kept)) (i : ℕ) (k : plain.Kept) → (e.0 == i) ≡ true → put i k (e ∷ es) ≡ (i, k) ∷ es
put_same e es i k h = ap (λ b. if b then (i, k) ∷ es else if nat_lt i e.0 then (i, k) ∷ e ∷ es else e ∷ put i k es) h

below_other : (n i : ℕ) → nat_lt n i ≡ true → (n == i) ≡ false
below_other n i h = grind (arith, common_steps)

found_behind : (e : ℕ × plain.Kept) (es : List (ℕ × plain.Kept)) (i : ℕ) → nat_lt e.0 i ≡ true → found (e ∷ es) i ≡ found es i
found_behind e es i h = ap (λ b. if b then Some e.1 else found es i) (below_other e.0 i h)

found_here : (e : ℕ × plain.Kept) (es : List (ℕ × plain.Kept)) (i : ℕ) → (e.0 == i) ≡ true → found (e ∷ es) i ≡ Some e.1
found_here e es i h = ap (λ b. if b then Some e.1 else found es i) h

set_behind : (e : ℕ × plain.Kept) (es : List (ℕ × plain.Kept)) (i : ℕ) (b : Bool) (k : ℕ) (o : Option plain.Kept) → nat_lt e.0 i ≡ true → e ∷ walks_set i b k o es ≡ walks_set i b k o (e ∷ es)
set_behind e es i b k None h = refl
set_behind e es i b k (Some (only v)) h = refl
set_behind e es i b k (Some (at_path p)) h = refl
set_behind e es i b k (Some (walk c v j)) h = sym (put_behind e es i (walk b v k) h)

set_here : (n o i : ℕ) (b : Bool) (k : ℕ) (q t : plain.Kept) (es : List (ℕ × plain.Kept)) → (n == i) ≡ true → o ≡ n → t ≡ rewalked b k q → (o, t) ∷ es ≡ walks_set i b k (Some q) ((n, q) ∷ es)
set_here n o i b k (only v) t es h e f = rw (e, f) refl
set_here n o i b k (at_path p) t es h e f = rw (e, f) refl
set_here n o i b k (walk c v j) t es h e f =
    ap (λ x. (x, t) ∷ es) (e ∙ eqb-true n i h) ∙ ap (λ s. (i, s) ∷ es) f ∙ sym (put_same (n, walk c v j) es i (walk b v k) h)

set_at : (x s d : ℕ × Kept) (xs : List (ℕ × Kept)) (i : ℕ) (b : Bool) (k : ℕ) (c : Bool) → nat_lt x.0 i ≡ c → (if c then is_kept i xs else x.0 == i) ≡ true
    → (is_kept i xs ≡ true → s.0 ≡ (get_or xs (place_in i xs) d).0 → kept_view s.1 ≡ rewalked b k (kept_view (get_or xs (place_in i xs) d).1)
    → map kept_at_view (slice_set xs (place_in i xs) s) ≡ walks_set i b k (found (map kept_at_view xs) i) (map kept_at_view xs))
    → s.0 ≡ (get_or (x ∷ xs) (if c then suc (place_in i xs) else zero) d).0
    → kept_view s.1 ≡ rewalked b k (kept_view (get_or (x ∷ xs) (if c then suc (place_in i xs) else zero) d).1)
    → map kept_at_view (slice_set (x ∷ xs) (if c then suc (place_in i xs) else zero) s) ≡ walks_set i b k (found (map kept_at_view (x ∷ xs)) i) (map kept_at_view (x ∷ xs))
set_at x s d xs i b k true lt h more e f =
    ap (λ ys. kept_at_view x ∷ ys) (more h e f)
    ∙ set_behind (kept_at_view x) (map kept_at_view xs) i b k (found (map kept_at_view xs) i) lt
    ∙ ap (λ o. walks_set i b k o (kept_at_view x ∷ map kept_at_view xs)) (sym (found_behind (kept_at_view x) (map kept_at_view xs) i lt))
set_at x s d xs i b k false lt h more e f =
    set_here x.0 s.0 i b k (kept_view x.1) (kept_view s.1) (map kept_at_view xs) h e f
    ∙ ap (λ o. walks_set i b k o (kept_at_view x ∷ map kept_at_view xs)) (sym (found_here (kept_at_view x) (map kept_at_view xs) i h))

-- another next item at the place of a header
pub walks_at : (xs : List (ℕ × Kept)) (i : ℕ) (b : Bool) (k : ℕ) (s d : ℕ × Kept) → is_kept i xs ≡ true → s.0 ≡ (get_or xs (place_in i xs) d).0
    → kept_view s.1 ≡ rewalked b k (kept_view (get_or xs (place_in i xs) d).1)
    → map kept_at_view (slice_set xs (place_in i xs) s) ≡ walks_set i b k (found (map kept_at_view xs) i) (map kept_at_view xs)
walks_at [] i b k s d h e f = absurd (search rules)
walks_at (x ∷ xs) i b k s d h e f = set_at x s d xs i b k (nat_lt x.0 i) refl h (walks_at xs i b k s d) e f

-- ---- the effects

abbrev next_or : Option (Bool × ℕ) → ℕ
next_or None = zero
next_or (Some p) = p.1

abbrev begun_or : Option (Bool × ℕ) → Bool
begun_or None = false
begun_or (Some p) = p.0

pub off_set : (o : Option plain.Kept) (i : ℕ) (c : Bool) (k : ℕ) (m : plain.Memory) → walk_of o ≡ Some (c, k) → not_walking i o m ≡ walk_set i false k o m
off_set None i c k m e = cc
off_set (Some (only v)) i c k m e = cc
off_set (Some (at_path p)) i c k m e = cc
off_set (Some (walk b v j)) i c k m e = ap (λ n. walking i false v n m) (ap next_or e)

pub off_none : (o : Option plain.Kept) (i : ℕ) (m : plain.Memory) → walk_of o ≡ None → not_walking i o m ≡ m
off_none None i m e = refl
off_none (Some (only v)) i m e = refl
off_none (Some (at_path p)) i m e = refl
off_none (Some (walk b v j)) i m e = cc

pub next_none : (o : Option plain.Kept) (x : Variable) (i : ℕ) (m : plain.Memory) → walk_of o ≡ None → each_by x i o m ≡ Bad-at 92 m
next_none None x i m e = refl
next_none (Some (only v)) x i m e = refl
next_none (Some (at_path p)) x i m e = refl
next_none (Some (walk b v j)) x i m e = cc

pub next_off : (o : Option plain.Kept) (x : Variable) (i k : ℕ) (m : plain.Memory) → walk_of o ≡ Some (false, k) → each_by x i o m ≡ Bad-at 92 m
next_off None x i k m e = refl
next_off (Some (only v)) x i k m e = refl
next_off (Some (at_path p)) x i k m e = refl
next_off (Some (walk false v j)) x i k m e = refl
next_off (Some (walk true v j)) x i k m e = let no : true ≡ false = ap begun_or e in cc

pub next_last : (o : Option plain.Kept) (x : Variable) (i k : ℕ) (m : plain.Memory) → walk_of o ≡ Some (true, k) → item_walked o m ≡ None
    → each_by x i o m ≡ on_fine (block_over i m) (λ u m1. Fine false m1)
next_last None x i k m e f = cc
next_last (Some (only v)) x i k m e f = cc
next_last (Some (at_path p)) x i k m e f = cc
next_last (Some (walk false v j)) x i k m e f = let no : false ≡ true = ap begun_or e in cc
next_last (Some (walk true v j)) x i k m e f = ap (λ w. next_item x i v j w m) f

pub next_more : (o : Option plain.Kept) (x : Variable) (i k n : ℕ) (w : Val) (m : plain.Memory) → walk_of o ≡ Some (true, k) → item_walked o m ≡ Some w → n ≡ suc k
    → each_by x i o m ≡ on_fine (item_stored x w (walk_set i true n o m)) (λ u m1. Fine true m1)
next_more None x i k n w m e f g = cc
next_more (Some (only v)) x i k n w m e f g = cc
next_more (Some (at_path p)) x i k n w m e f g = cc
next_more (Some (walk false v j)) x i k n w m e f g = let no : false ≡ true = ap begun_or e in cc
next_more (Some (walk true v j)) x i k n w m e f g =
    ap (λ o. next_item x i v j o m) f
    ∙ ap (λ l. on_fine (item_stored x w (walking i true v l m)) (λ u m1. Fine true m1)) (ap suc (ap next_or e) ∙ sym g)
